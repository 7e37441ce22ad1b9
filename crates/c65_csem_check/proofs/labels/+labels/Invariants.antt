use Rattle.std.proofs.Common.{◌≡◌, ◌≤◌, ◌+◌, ◌++◌, min, drop, length, map, nat_le}
use Rattle.c65_csem.specs.Views.{typed_of, nodes_of, stmts_of, unit_of}
use Rattle.c65_csem.specs.Statements
use Rattle.c65_csem_check.proofs.labels.+labels.Given as goal

abbrev pub invariant-add_labels_in-loop-stmt : goal.invariant-add_labels_in-loop-stmt
invariant-add_labels_in-loop-stmt l = l.labels.items ++ Statements.labels_in (stmts_of (drop l.stmt-index l.stmts)) ≡ l.fn.labels.items ++ Statements.labels_in (stmts_of l.stmts)
