use Rattle.std.proofs.Common.{◌+◌, ◌*◌}
use Rattle.c65_csem.specs.Views.{stmt_of, stmts_of}
use Rattle.c65_genstmt.proofs.Counts.{count, counts}
use Rattle.c65_genstmt.proofs.stmt.+returns.Given as goal

abbrev pub decreases-returns_last : goal.decreases-returns_last
decreases-returns_last l = 2 * count (stmt_of l.stmt.now)

abbrev pub decreases-any_last : goal.decreases-any_last
decreases-any_last l = 2 * counts (stmts_of l.stmts.now) + 1
