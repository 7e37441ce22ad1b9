use Rattle.std.proofs.Common.{◌≡◌, map, drop}
use Rattle.c65_csem.specs.Views.{func_of}
use Rattle.c65_init_join.specs.Checks.{funcs_defined}
use Rattle.c65_init_join.specs.Tables.{table_of}
use Rattle.c65_init_join.proofs.checks.check_funcs.Given as goal

abbrev pub invariant-loop-i : goal.invariant-loop-i
invariant-loop-i l = funcs_defined l.names (table_of l.table) l.marks l.i (map func_of (drop l.i l.funcs)) ≡ funcs_defined l.names (table_of l.table) l.marks 0 (map func_of l.funcs)
