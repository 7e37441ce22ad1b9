use Rattle.std.proofs.Common.{◌≡◌, ◌++◌, map, drop}
use Rattle.c65_csem.specs.Views.{func_of}
use Rattle.c65_init_join.specs.Numbers.{kept_funcs}
use Rattle.c65_init_join.specs.Tables.{table_of}
use Rattle.c65_init_join.proofs.assign.kept_funcs.Given as goal

abbrev pub invariant-loop-i : goal.invariant-loop-i
invariant-loop-i l = l.kept.items ++ kept_funcs l.names (table_of l.table) l.unit l.i (map func_of (drop l.i l.funcs)) ≡ kept_funcs l.names (table_of l.table) l.unit 0 (map func_of l.funcs)
