use Rattle.std.proofs.Common.{arith, ap}
use Rattle.c65_tree.proofs.Views
use Rattle.c65_tree.specs.Lists.{total}
use Rattle.c65_tree.specs.Nodes.{decl_nodes}
use Rattle.c65_tree.specs.View.{decl_of}
use Rattle.c65_tree.proofs.count.function_count.Goals as goal

pub returns : goal.returns
returns c = omega (arith, Views.total_map decl_nodes decl_of c.args.function.now.declarations.items, ap (total (λ x. decl_nodes (decl_of x))) c.deref.ensures.value)
