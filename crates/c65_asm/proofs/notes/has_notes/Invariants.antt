use Rattle.std.proofs.Common.{◌≡◌, length}
use Rattle.c65_asm.specs.Noted.{has_notes}
use Rattle.c65_asm.proofs.notes.has_notes.Given as goal

abbrev pub decreases-loop-line : goal.decreases-loop-line
decreases-loop-line l = length l.rest

abbrev pub invariant-loop-line : goal.invariant-loop-line
invariant-loop-line l = has_notes l.rest ≡ has_notes l.text
