use Rattle.std.proofs.Common.{arith, ap}
use Rattle.c65_tree.proofs.Views
use Rattle.c65_tree.specs.Lists.{total}
use Rattle.c65_tree.specs.Nodes.{init_declarator_nodes}
use Rattle.c65_tree.specs.View.{init_declarator_of}
use Rattle.c65_tree.proofs.count.decl_count.Goals as goal

pub returns : goal.returns
returns c = omega (arith, Views.total_map init_declarator_nodes init_declarator_of c.args.decl.now.declarators.items, ap (total (λ x. init_declarator_nodes (init_declarator_of x))) c.deref.ensures.value)
