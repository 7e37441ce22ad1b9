use Rattle.std.proofs.Common.{◌≡◌, ◌++◌, length, map, take, drop}
use Rattle.c65_csem.specs.Views.{object_of}
use Rattle.c65_init_join.specs.Items.{raised_object}
use Rattle.c65_init_join.proofs.unit.raise_objects.Given as goal

abbrev pub invariant-loop-i : goal.invariant-loop-i
invariant-loop-i l = record {
  same : length l.objects.items ≡ length l.fn.objects.items;
  so_far : map object_of l.objects.items ≡ map (raised_object l.by) (take l.i (map object_of l.fn.objects.items)) ++ drop l.i (map object_of l.fn.objects.items);
}
