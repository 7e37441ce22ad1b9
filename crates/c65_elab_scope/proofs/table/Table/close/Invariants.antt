use Rattle.std.proofs.Common.{◌≡◌, length}
use Rattle.c65_elab_scope.specs.Tables.{table_of, closed_table}
use Rattle.c65_elab_scope.proofs.table.Table.close.Given as goal

abbrev pub invariant-loop-self : goal.invariant-loop-self
invariant-loop-self l = closed_table l.fn.block (table_of l.self) ≡ closed_table l.fn.block (table_of l.fn.self)

abbrev pub decreases-loop-self : goal.decreases-loop-self
decreases-loop-self l = length l.self.hidden.items
