use Rattle.std.proofs.Common.{◌≡◌, map, drop}
use Rattle.c65_csem.specs.Views.{func_of}
use Rattle.c65_init_join.specs.Numbers.{funcs_noted}
use Rattle.c65_init_join.specs.Tables.{table_of}
use Rattle.c65_init_join.proofs.assign.note_funcs.Given as goal

abbrev pub invariant-loop-i : goal.invariant-loop-i
invariant-loop-i l = funcs_noted l.given l.i (map func_of (drop l.i l.funcs)) (table_of l.table) ≡ funcs_noted l.given 0 (map func_of l.funcs) (table_of l.fn.table)
