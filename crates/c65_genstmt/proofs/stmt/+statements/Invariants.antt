use Rattle.std.proofs.Common.{◌≡◌, ◌+◌, ◌*◌, drop}
use Rattle.c65_csem.specs.Views.{stmt_of, stmts_of}
use Rattle.c65_genstmt.specs.Stmts.{with_stmts, case_behind_all}
use Rattle.c65_genstmt.proofs.Counts.{count, counts}
use Rattle.c65_genstmt.proofs.stmt.+statements.Given as goal

abbrev pub decreases-put_stmt : goal.decreases-put_stmt
decreases-put_stmt l = 2 * count (stmt_of l.stmt.now)

abbrev pub decreases-put_stmts : goal.decreases-put_stmts
decreases-put_stmts l = 2 * counts (stmts_of l.stmts.now) + 1

abbrev pub decreases-put_if : goal.decreases-put_if
decreases-put_if l = 2 * (count (stmt_of l.body.now) + count (stmt_of l.other.now)) + 1

abbrev pub decreases-put_while : goal.decreases-put_while
decreases-put_while l = 2 * count (stmt_of l.body.now) + 1

abbrev pub decreases-put_do : goal.decreases-put_do
decreases-put_do l = 2 * count (stmt_of l.body.now) + 1

abbrev pub decreases-put_for : goal.decreases-put_for
decreases-put_for l = 2 * count (stmt_of l.body.now) + 1

abbrev pub decreases-put_switch : goal.decreases-put_switch
decreases-put_switch l = 2 * count (stmt_of l.body.now) + 1

abbrev pub invariant-put_stmts-loop-stmt : goal.invariant-put_stmts-loop-stmt
invariant-put_stmts-loop-stmt l = record {
  lines : with_stmts l.frame l.ways l.case (stmts_of (drop l.stmt-index l.stmts)) l.draft ≡ with_stmts l.frame l.ways l.initial.case (stmts_of l.stmts) l.initial.draft;
  cases : case_behind_all l.case (stmts_of (drop l.stmt-index l.stmts)) ≡ case_behind_all l.initial.case (stmts_of l.stmts);
}
