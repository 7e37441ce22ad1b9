use Rattle.std.proofs.Common.{◌≡◌, ◌+◌, List, length}
use Rattle.c65_macro.specs.declared.sets.Node.{Node}
use Rattle.c65_macro.specs.Items
use Rattle.c65_macro.specs.Views.{items_of}
use Rattle.c65_macro.proofs.state.count.Given as goal

abbrev pub invariant-loop-item : goal.invariant-loop-item
invariant-loop-item l = (nodes : List Node) → l.total + Items.count (items_of nodes l.rest) ≡ Items.count (items_of nodes l.items)

abbrev pub decreases-loop-item : goal.decreases-loop-item
decreases-loop-item l = length l.rest
