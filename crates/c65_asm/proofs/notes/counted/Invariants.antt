use Rattle.std.proofs.Common.{◌≡◌, length}
use Rattle.c65_asm.specs.Noted.{whole_lines, counted}
use Rattle.c65_asm.proofs.notes.counted.Given as goal

abbrev pub decreases-loop-line : goal.decreases-loop-line
decreases-loop-line l = length l.rest

abbrev pub invariant-loop-line : goal.invariant-loop-line
invariant-loop-line l = counted l.left l.at (whole_lines l.rest) ≡ counted l.number 1 (whole_lines l.text)
