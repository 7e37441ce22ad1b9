use Rattle.std.proofs.Common.{◌≡◌, ◌+◌, ◌≤◌, drop}
use Rattle.std.specs.Prelude.{min}
use Rattle.c65_csem.specs.Views.{nodes_of, unit_of}
use Rattle.c65_meaning.specs.Shapes.{types_of}
use Rattle.c65_meaning.specs.Costs.{argument_bytes}
use Rattle.c65_depth.specs.Calls.{most}
use Rattle.c65_depth.proofs.calls.argument_bytes.Given as goal

abbrev pub invariant-loop-argument : goal.invariant-loop-argument
invariant-loop-argument l =
    (min (l.bytes + argument_bytes (unit_of l.parts) (types_of (nodes_of (drop l.argument-index l.given)))) most ≡ min (argument_bytes (unit_of l.parts) (types_of (nodes_of l.given))) most)
    × (l.bytes ≤ most)
