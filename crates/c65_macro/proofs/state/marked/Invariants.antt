use Rattle.std.proofs.Common.{◌≡◌, ◌++◌, List, length}
use Rattle.c65_macro.specs.declared.sets.Node.{Node}
use Rattle.c65_macro.specs.Items
use Rattle.c65_macro.specs.Views.{items_of}
use Rattle.c65_macro.proofs.state.marked.Given as goal

abbrev pub invariant-loop-token : goal.invariant-loop-token
invariant-loop-token l = (nodes : List Node) → items_of nodes l.items.items ++ Items.items l.rest ≡ items_of nodes l.fn.items.items ++ Items.items l.line

abbrev pub decreases-loop-token : goal.decreases-loop-token
decreases-loop-token l = length l.rest
