use Rattle.std.proofs.Common.{◌≡◌, ◌≤◌, drop, length, map, nat_le}
use Rattle.c65_ctype.specs.Views.{qtys_of, fn_of}
use Rattle.c65_csem_check.specs.Kinds as b
use Rattle.c65_csem_check.proofs.same.+same.Given as goal

abbrev pub invariant-same_function-loop-i : goal.invariant-same_function-loop-i
invariant-same_function-loop-i l = record {
  within : l.i ≤ length l.others;
  so_far : b.same_all (qtys_of (drop l.i l.q-items)) (qtys_of (drop l.i l.others)) ≡ b.same_fn (fn_of l.f) (fn_of l.g);
}
