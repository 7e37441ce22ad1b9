use Rattle.std.proofs.Common.{◌≡◌, ◌++◌, length, map, take, drop}
use Rattle.c65_csem.specs.Views.{func_of}
use Rattle.c65_init_join.specs.Items.{raised_func}
use Rattle.c65_init_join.proofs.unit.raise_funcs.Given as goal

abbrev pub invariant-loop-i : goal.invariant-loop-i
invariant-loop-i l = record {
  same : length l.funcs.items ≡ length l.fn.funcs.items;
  so_far : map func_of l.funcs.items ≡ map (raised_func l.by) (take l.i (map func_of l.fn.funcs.items)) ++ drop l.i (map func_of l.fn.funcs.items);
}
