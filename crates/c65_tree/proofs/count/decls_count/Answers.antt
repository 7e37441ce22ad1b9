use Rattle.std.proofs.Common.{arith}
use Rattle.c65_tree.proofs.Lists.{total_next}
use Rattle.c65_tree.specs.Nodes.{decl_nodes}
use Rattle.c65_tree.specs.View.{decl_of}
use Rattle.c65_tree.proofs.count.decls_count.Goals as goal

pub loop-decl-preserved : goal.loop-decl-preserved
loop-decl-preserved c = omega (arith, total_next (λ x. decl_nodes (decl_of x)) c.args.items.now c.loop-decl.decl-index c.decl-item.result c.loop-decl-test.true c.decl-item.is)
