use Rattle.std.proofs.Common.{◌≡◌, take}
use Rattle.std.specs.Prelude.{min}
use Rattle.c65_tree.specs.Lists.{total}
use Rattle.c65_tree.specs.Nodes.{item_nodes}
use Rattle.c65_tree.specs.View.{item_of}
use Rattle.c65_tree.proofs.count.items_count.Given as goal

abbrev pub invariant-loop-item : goal.invariant-loop-item
invariant-loop-item l = l.count ≡ min (total (λ x. item_nodes (item_of x)) (take l.item-index l.items)) 18446744073709551615
