use Rattle.std.proofs.Common.{◌≡◌, List, length, reverse}
use Rattle.c65_macro.specs.declared.sets.Node.{Node}
use Rattle.c65_macro.specs.Uses.{only_ends}
use Rattle.c65_macro.specs.Views.{items_of}
use Rattle.c65_macro.proofs.rest.Rest.has_ends_alone.Given as goal

abbrev pub invariant-loop-item : goal.invariant-loop-item
invariant-loop-item l = (nodes : List Node) → only_ends (items_of nodes (reverse l.rest)) ≡ only_ends (items_of nodes l.self)

abbrev pub decreases-loop-item : goal.decreases-loop-item
decreases-loop-item l = length l.rest
