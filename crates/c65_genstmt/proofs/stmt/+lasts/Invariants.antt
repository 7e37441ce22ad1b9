use Rattle.std.proofs.Common.{◌+◌, ◌*◌}
use Rattle.c65_csem.specs.Views.{stmt_of, stmts_of}
use Rattle.c65_genstmt.proofs.Counts.{count, counts}
use Rattle.c65_genstmt.proofs.stmt.+lasts.Given as goal

abbrev pub decreases-put_last : goal.decreases-put_last
decreases-put_last l = 2 * count (stmt_of l.stmt.now)

abbrev pub decreases-put_lasts : goal.decreases-put_lasts
decreases-put_lasts l = 2 * counts (stmts_of l.stmts.now) + 1
