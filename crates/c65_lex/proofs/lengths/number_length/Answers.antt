use Rattle.std.proofs.Common.{arith}
use Rattle.c65_lex.proofs.Joints.{ahead_short}
use Rattle.c65_lex.proofs.lengths.number_length.Goals as goal

pub overflow_add-count : goal.overflow_add-count
overflow_add-count c = let h = c.type_inv.text in let w = c.well_formed in omega (arith, ahead_short c.args.text.now c.args.from)
