use Rattle.std.proofs.Common.{◌≡◌, ◌++◌, length}
use Rattle.c65_asm.specs.Noted.{without_notes}
use Rattle.c65_asm.proofs.notes.without_notes.Given as goal

abbrev pub decreases-loop-line : goal.decreases-loop-line
decreases-loop-line l = length l.rest

abbrev pub invariant-loop-line : goal.invariant-loop-line
invariant-loop-line l = l.others.items ++ without_notes l.rest ≡ without_notes l.text
