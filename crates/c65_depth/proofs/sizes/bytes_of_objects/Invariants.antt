use Rattle.std.proofs.Common.{◌≡◌, ◌+◌, ◌≤◌, drop}
use Rattle.std.specs.Prelude.{min}
use Rattle.c65_csem.specs.Views.{unit_of}
use Rattle.c65_meaning.specs.Costs.{bytes_of_objects}
use Rattle.c65_depth.specs.Calls.{most}
use Rattle.c65_depth.proofs.sizes.bytes_of_objects.Given as goal

abbrev pub invariant-loop-object : goal.invariant-loop-object
invariant-loop-object l =
    (min (l.bytes + bytes_of_objects (unit_of l.parts) (drop l.object-index l.objects)) most ≡ min (bytes_of_objects (unit_of l.parts) l.objects) most)
    × (l.bytes ≤ most)
