use Rattle.std.proofs.Common.{arith}
use Rattle.c65_tree.proofs.Lists.{total_next}
use Rattle.c65_tree.specs.Nodes.{item_nodes}
use Rattle.c65_tree.specs.View.{item_of}
use Rattle.c65_tree.proofs.count.items_count.Goals as goal

pub loop-item-preserved : goal.loop-item-preserved
loop-item-preserved c = omega (arith, total_next (λ x. item_nodes (item_of x)) c.args.items.now c.loop-item.item-index c.item-item.result c.loop-item-test.true c.item-item.is)
