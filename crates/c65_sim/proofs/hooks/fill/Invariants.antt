use Rattle.std.proofs.Common.{◌≡◌, ◌-◌, ◌≤◌, length, take}
use Rattle.c65_io.specs.Told.{prepend_told}
use Rattle.c65_sim.proofs.hooks.fill.Given as goal

abbrev pub invariant-loop-at : goal.invariant-loop-at
invariant-loop-at g l =
    (l.at ≤ length l.into)
    × (g.I.Source.left l.fn.input ≡ prepend_told (take l.at l.into) (g.I.Source.left l.input))
    × (g.I.Source.faults l.input ≡ g.I.Source.faults l.fn.input)

abbrev pub decreases-loop-at : goal.decreases-loop-at
decreases-loop-at g l = length l.into - l.at
