use Rattle.std.proofs.Common.{◌≡◌, ◌≤◌, ◌-◌, drop, length}
use Rattle.c65_lex.specs.Cells.{ahead, joint}
use Rattle.c65_lex.proofs.place.settle.Given as goal

abbrev pub invariant-loop-dropped : goal.invariant-loop-dropped
invariant-loop-dropped l = record { within : l.place.at ≤ length l.text; here : l.dropped ≡ joint (drop l.place.at l.text); same : ahead l.text l.place ≡ ahead l.text l.fn.from }

abbrev pub decreases-loop-dropped : goal.decreases-loop-dropped
decreases-loop-dropped l = length l.text - l.place.at
