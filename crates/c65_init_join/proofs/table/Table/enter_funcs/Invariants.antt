use Rattle.std.proofs.Common.{◌≡◌, map, drop}
use Rattle.c65_csem.specs.Views.{func_of}
use Rattle.c65_init_join.specs.Tables.{all_entered, funcs_declared, table_of}
use Rattle.c65_init_join.proofs.table.Table.enter_funcs.Given as goal

abbrev pub invariant-loop-i : goal.invariant-loop-i
invariant-loop-i l = all_entered (table_of l.self) (funcs_declared l.unit l.i (map func_of (drop l.i l.funcs))) ≡ all_entered (table_of l.fn.self) (funcs_declared l.unit 0 (map func_of l.funcs))
