use Rattle.std.proofs.Common.{refl, arith}
use Rattle.c65_pieces.specs.Settled.{ahead}
use Rattle.c65_pieces.proofs.lexer.PieceLexer.open.Goals as goal

pub returns : goal.returns
unfolding ahead
returns c = rw c.new.ensures.items (record { new = refl; room = record { goes_on = tt; few = omega arith } })
