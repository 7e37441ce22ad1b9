use Rattle.std.proofs.Common.{◌≡◌, ◌≤◌, drop, length}
use Rattle.c65_ctype.specs.Views.{fn_of, qtys_of}
use Rattle.c65_ctype.specs.Compatible.{functions_meet, lists_meet}
use Rattle.c65_ctype.proofs.compat.+meet.Given as goal

abbrev pub invariant-functions_meet-loop-i : goal.invariant-functions_meet-loop-i
invariant-functions_meet-loop-i l = record {
  within : l.i ≤ length l.others;
  so_far : lists_meet l.pairs.items (qtys_of (drop l.i l.q-items)) (qtys_of (drop l.i l.others)) ≡ functions_meet l.fn.pairs.items (fn_of l.f) (fn_of l.g);
}
