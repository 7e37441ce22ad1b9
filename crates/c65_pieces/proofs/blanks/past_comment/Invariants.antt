use Rattle.std.proofs.Common.{◌≡◌, length, false}
use Rattle.c65_pieces.specs.Settled.{ahead}
use Rattle.c65_lex.specs.Blanks.{past_comment}
use Rattle.c65_pieces.proofs.blanks.past_comment.Given as goal

abbrev pub invariant-loop-reading : goal.invariant-loop-reading
invariant-loop-reading l = past_comment l.star (ahead l.lines l.place) ≡ past_comment false (ahead l.lines l.fn.from)

abbrev pub decreases-loop-reading : goal.decreases-loop-reading
decreases-loop-reading l = length (ahead l.lines l.place)
