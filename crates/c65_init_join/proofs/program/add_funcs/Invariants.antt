use Rattle.std.proofs.Common.{◌≡◌, ◌++◌, length, map, drop}
use Rattle.c65_csem.specs.Views.{func_of}
use Rattle.c65_init_join.specs.Joined.{finished_func, selected}
use Rattle.c65_init_join.specs.Numbers.{numbers_of}
use Rattle.c65_init_join.proofs.program.add_funcs.Given as goal

abbrev pub invariant-loop-func : goal.invariant-loop-func
invariant-loop-func l = record {
  can_next : (goal.iterator-loop-func).can_next l.func-iterator;
  is_finite : (goal.iterator-loop-func).is_finite l.func-iterator;
  count : l.i ≡ length l.yielded;
  so_far : map func_of l.program.items ++ map (finished_func l.names l.signed_chars (numbers_of l.numbers)) (selected l.kept l.i (map func_of (drop (length l.yielded) l.fn.funcs.items))) ≡ map func_of l.fn.program.items ++ map (finished_func l.names l.signed_chars (numbers_of l.numbers)) (selected l.kept 0 (map func_of l.fn.funcs.items));
}
