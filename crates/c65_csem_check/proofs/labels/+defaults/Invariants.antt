use Rattle.std.proofs.Common.{◌≡◌, ◌≤◌, ◌+◌, ◌++◌, min, drop, length, map, nat_le}
use Rattle.c65_csem.specs.Views.{typed_of, nodes_of, stmts_of, unit_of}
use Rattle.c65_csem.specs.Statements
use Rattle.c65_csem_check.proofs.labels.+defaults.Given as goal

abbrev pub invariant-defaults_in-loop-stmt : goal.invariant-defaults_in-loop-stmt
invariant-defaults_in-loop-stmt l = record {
  small : l.seen ≤ 2;
  so_far : min (l.seen + Statements.defaults_in (stmts_of (drop l.stmt-index l.stmts))) 2 ≡ min (l.before + Statements.defaults_in (stmts_of l.stmts)) 2;
}
