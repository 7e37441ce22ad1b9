use Rattle.std.proofs.Common.{◌≡◌, ◌++◌, length, map, drop}
use Rattle.c65_csem.specs.Views.{object_of}
use Rattle.c65_ctype.specs.Views.{types_of}
use Rattle.c65_init_join.specs.Joined.{finished_object, selected}
use Rattle.c65_init_join.specs.Numbers.{numbers_of}
use Rattle.c65_init_join.proofs.program.add_objects.Given as goal

abbrev pub invariant-loop-object : goal.invariant-loop-object
invariant-loop-object l = record {
  can_next : (goal.iterator-loop-object).can_next l.object-iterator;
  is_finite : (goal.iterator-loop-object).is_finite l.object-iterator;
  count : l.i ≡ length l.yielded;
  so_far : map object_of l.program.items ++ map (finished_object (types_of l.types) (numbers_of l.numbers)) (selected l.kept l.i (map object_of (drop (length l.yielded) l.fn.objects.items))) ≡ map object_of l.fn.program.items ++ map (finished_object (types_of l.types) (numbers_of l.numbers)) (selected l.kept 0 (map object_of l.fn.objects.items));
}
