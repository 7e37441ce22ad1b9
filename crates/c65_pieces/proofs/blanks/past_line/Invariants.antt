use Rattle.std.proofs.Common.{◌≡◌, length}
use Rattle.c65_pieces.specs.Settled.{ahead}
use Rattle.c65_lex.specs.Blanks.{past_line}
use Rattle.c65_pieces.proofs.blanks.past_line.Given as goal

abbrev pub invariant-loop-reading : goal.invariant-loop-reading
invariant-loop-reading l = past_line (ahead l.lines l.place) ≡ past_line (ahead l.lines l.fn.from)

abbrev pub decreases-loop-reading : goal.decreases-loop-reading
decreases-loop-reading l = length (ahead l.lines l.place)
