use Rattle.std.proofs.Common.{◌≡◌, ◌==◌, find, drop}
use Rattle.c65_depth.proofs.checks.first_row.Given as goal

abbrev pub invariant-loop-row : goal.invariant-loop-row
invariant-loop-row l = find (λ r. r.func == l.func) (drop l.row-index l.rows) ≡ find (λ r. r.func == l.func) l.rows
