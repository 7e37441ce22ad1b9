use Rattle.std.proofs.Common.{◌≡◌, ◌++◌, map, take, drop}
use Rattle.c65_init_join.specs.Numbers.{numbers_of}
use Rattle.c65_init_join.specs.Renumbered.{object_number}
use Rattle.c65_init_join.proofs.renumber.renumber_objects.Given as goal

abbrev pub invariant-loop-i : goal.invariant-loop-i
invariant-loop-i l = l.objects.items ≡ map (object_number (numbers_of l.numbers)) (take l.i l.fn.objects.items) ++ drop l.i l.fn.objects.items
