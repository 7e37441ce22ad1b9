use Rattle.c65_optlib.proofs.Walked.{not_asked}
use Rattle.c65_optlib.proofs.inline.open_calls.Goals as goal

pub returns-then-not-options : goal.returns-then-not-options
returns-then-not-options c = not_asked 39 c.args.literals.now.items c.args.code.now c.args.options.now.inline_more c.if-not-options.true
