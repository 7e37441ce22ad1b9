use Rattle.std.proofs.Common.{arith}
use Rattle.c65_pieces.proofs.Ahead.{ahead_end, ahead_step}
use Rattle.c65_pieces.proofs.settled.read.Goals as goal

pub returns-then-place-lines : goal.returns-then-place-lines
returns-then-place-lines c = ahead_end c.args.lines.now c.args.place (omega arith)

pub returns : goal.returns
returns c = ahead_step c.args.lines.now c.args.place (record { byte = 0; line = 0; column = 0 }) (omega arith)
