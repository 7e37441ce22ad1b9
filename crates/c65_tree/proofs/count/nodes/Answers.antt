use Rattle.std.proofs.Common.{arith, ap}
use Rattle.c65_tree.proofs.Views
use Rattle.c65_tree.specs.Lists.{total}
use Rattle.c65_tree.specs.Nodes.{item_nodes}
use Rattle.c65_tree.specs.View.{item_of}
use Rattle.c65_tree.proofs.count.nodes.Goals as goal

pub returns : goal.returns
returns c = omega (arith, Views.total_map item_nodes item_of c.args.unit.now.items.items, ap (total (λ x. item_nodes (item_of x))) c.deref.ensures.value)
