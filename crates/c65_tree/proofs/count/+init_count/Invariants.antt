use Rattle.std.proofs.Common.{◌≡◌, take}
use Rattle.std.specs.Prelude.{min}
use Rattle.c65_tree.specs.Lists.{total}
use Rattle.c65_tree.specs.Nodes.{init_nodes}
use Rattle.c65_tree.specs.View.{init_of}
use Rattle.c65_tree.proofs.count.+init_count.Given as goal

abbrev pub invariant-inits_count-loop-init : goal.invariant-inits_count-loop-init
invariant-inits_count-loop-init l = l.count ≡ min (total (λ x. init_nodes (init_of x)) (take l.init-index l.items)) 18446744073709551615
