use Rattle.std.proofs.Common.{◌≡◌, ◌++◌, map, drop}
use Rattle.c65_csem.specs.Views.{func_of}
use Rattle.c65_init_join.specs.Numbers.{completed_funcs}
use Rattle.c65_init_join.specs.Tables.{table_of}
use Rattle.c65_init_join.proofs.assign.complete_funcs.Given as goal

abbrev pub invariant-loop-i : goal.invariant-loop-i
invariant-loop-i l = l.numbers.items ++ completed_funcs (table_of l.table) l.given l.i (map func_of (drop l.i l.funcs)) ≡ completed_funcs (table_of l.table) l.given 0 (map func_of l.funcs)
