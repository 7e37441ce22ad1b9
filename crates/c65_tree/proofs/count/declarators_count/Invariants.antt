use Rattle.std.proofs.Common.{◌≡◌, take}
use Rattle.std.specs.Prelude.{min}
use Rattle.c65_tree.specs.Lists.{total}
use Rattle.c65_tree.specs.Nodes.{init_declarator_nodes}
use Rattle.c65_tree.specs.View.{init_declarator_of}
use Rattle.c65_tree.proofs.count.declarators_count.Given as goal

abbrev pub invariant-loop-declarator : goal.invariant-loop-declarator
invariant-loop-declarator l = l.count ≡ min (total (λ x. init_declarator_nodes (init_declarator_of x)) (take l.declarator-index l.items)) 18446744073709551615
