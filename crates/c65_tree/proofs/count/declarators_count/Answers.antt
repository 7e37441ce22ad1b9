use Rattle.std.proofs.Common.{arith}
use Rattle.c65_tree.proofs.Lists.{total_next}
use Rattle.c65_tree.specs.Nodes.{init_declarator_nodes}
use Rattle.c65_tree.specs.View.{init_declarator_of}
use Rattle.c65_tree.proofs.count.declarators_count.Goals as goal

pub loop-declarator-preserved : goal.loop-declarator-preserved
loop-declarator-preserved c = omega (arith, total_next (λ x. init_declarator_nodes (init_declarator_of x)) c.args.items.now c.loop-declarator.declarator-index c.declarator-item.result c.loop-declarator-test.true c.declarator-item.is)
