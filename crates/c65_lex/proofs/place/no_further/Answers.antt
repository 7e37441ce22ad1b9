use Rattle.std.proofs.Common.{arith, refl}
use Rattle.c65_lex.proofs.Joints.{ahead_end}
use Rattle.c65_lex.proofs.place.no_further.Goals as goal

pub returns-clause-same : goal.returns-clause-same
returns-clause-same c = ahead_end c.args.text.now c.args.from _ (omega arith) refl refl refl
