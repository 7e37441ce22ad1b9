use Rattle.std.proofs.Common.{◌≡◌, take}
use Rattle.std.specs.Prelude.{min}
use Rattle.c65_tree.specs.Lists.{total}
use Rattle.c65_tree.specs.Nodes.{decl_nodes}
use Rattle.c65_tree.specs.View.{decl_of}
use Rattle.c65_tree.proofs.count.decls_count.Given as goal

abbrev pub invariant-loop-decl : goal.invariant-loop-decl
invariant-loop-decl l = l.count ≡ min (total (λ x. decl_nodes (decl_of x)) (take l.decl-index l.items)) 18446744073709551615
