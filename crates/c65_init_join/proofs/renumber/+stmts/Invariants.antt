use Rattle.std.proofs.Common.{◌≡◌, ◌<◌, ℕ, get_or}
use Rattle.c65_csem.specs.Views.{stmt_of}
use Rattle.c65_csem.specs.declared.stmt.TStmt.{TStmt}
use Rattle.c65_init_join.specs.Numbers.{numbers_of}
use Rattle.c65_init_join.specs.Renumbered.{renumbered_stmt}
use Rattle.c65_init_join.proofs.renumber.+stmts.Given as goal

abbrev pub invariant-loop-i : goal.invariant-loop-i
invariant-loop-i l = record {
  unvisited : goal.unvisited-loop-i l;
  done : (k : ℕ) (d : TStmt) → k < l.i → stmt_of (get_or l.stmts.items k d) ≡ renumbered_stmt (numbers_of l.numbers) (stmt_of (get_or l.initial.stmts.items k d));
}
