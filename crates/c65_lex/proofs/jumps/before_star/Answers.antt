use Rattle.std.proofs.Common.{take, length}
use Rattle.c65_lex.specs.Jumps.{are_plain}
use Rattle.c65_lex.proofs.Plain.{before_star, no_star, is_true}
use Rattle.c65_lex.proofs.jumps.before_star.Goals as goal

pub returns-in-Some-clause-plain : goal.returns-in-Some-clause-plain
returns-in-Some-clause-plain c = is_true (are_plain 42 (take c.in-Some.count c.args.rest.now)) (before_star c.args.rest.now c.in-Some.count c.in-Some.ensures.0)

pub returns-in-None-clause-plain : goal.returns-in-None-clause-plain
returns-in-None-clause-plain c = is_true (are_plain 42 (take (length c.args.rest.now) c.args.rest.now)) (no_star c.args.rest.now c.in-None.ensures)
