use Rattle.std.proofs.Common.{arith}
use Rattle.c65_pieces.proofs.Ahead.{ahead_short}
use Rattle.c65_pieces.proofs.lengths.close_of.Goals as goal

pub overflow_add-count : goal.overflow_add-count
overflow_add-count c = let w = c.well_formed in omega (arith, ahead_short c.args.lines.now c.args.from)
