use Rattle.std.proofs.Common.{◌≡◌, take}
use Rattle.std.specs.Prelude.{min}
use Rattle.c65_tree.specs.Lists.{total}
use Rattle.c65_tree.specs.Nodes.{stmt_nodes}
use Rattle.c65_tree.specs.View.{stmt_of}
use Rattle.c65_tree.proofs.count.+stmt_count.Given as goal

abbrev pub invariant-stmts_count-loop-stmt : goal.invariant-stmts_count-loop-stmt
invariant-stmts_count-loop-stmt l = l.count ≡ min (total (λ x. stmt_nodes (stmt_of x)) (take l.stmt-index l.items)) 18446744073709551615
