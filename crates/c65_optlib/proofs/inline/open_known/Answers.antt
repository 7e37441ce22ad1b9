use Rattle.c65_optlib.proofs.Walked.{not_asked}
use Rattle.c65_optlib.proofs.inline.open_known.Goals as goal

pub returns-then-not-options : goal.returns-then-not-options
returns-then-not-options c = not_asked 40 c.args.literals.now.items c.args.code.now c.args.options.now.known_functions c.if-not-options.true
