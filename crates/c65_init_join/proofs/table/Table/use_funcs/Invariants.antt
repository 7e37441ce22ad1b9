use Rattle.std.proofs.Common.{◌≡◌, map, drop}
use Rattle.c65_csem.specs.Views.{func_of}
use Rattle.c65_init_join.specs.Tables.{funcs_used, table_of}
use Rattle.c65_init_join.proofs.table.Table.use_funcs.Given as goal

abbrev pub invariant-loop-i : goal.invariant-loop-i
invariant-loop-i l = funcs_used l.marks l.i (map func_of (drop l.i l.funcs)) (table_of l.self) ≡ funcs_used l.marks 0 (map func_of l.funcs) (table_of l.fn.self)
