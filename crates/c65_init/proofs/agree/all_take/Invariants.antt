use Rattle.std.proofs.Common.{◌≡◌, ◌≤◌, drop, length}
use Rattle.c65_csem.specs.Views.{unit_of}
use Rattle.c65_ctype.specs.Views.{qtys_of}
use Rattle.c65_init.specs.Agreeing as a
use Rattle.c65_init.proofs.agree.all_take.Given as goal

abbrev pub invariant-loop-i : goal.invariant-loop-i
invariant-loop-i l = record {
  within : l.i ≤ length l.params;
  so_far : a.all_take (unit_of l.parts) (qtys_of (drop l.i l.types)) (drop l.i l.params) ≡ a.all_take (unit_of l.parts) (qtys_of l.types) l.params;
}
