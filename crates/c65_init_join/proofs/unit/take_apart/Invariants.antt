use Rattle.std.proofs.Common.{◌≡◌, ◌++◌, length, map, drop}
use Rattle.c65_csem.specs.Views.{unit_of}
use Rattle.c65_ctype.specs.Views.{types_of}
use Rattle.c65_init_join.specs.Items.{all_items, all_types, items_of}
use Rattle.c65_init_join.proofs.unit.take_apart.Given as goal

abbrev pub invariant-loop-unit : goal.invariant-loop-unit
invariant-loop-unit l = record {
  can_next : (goal.iterator-loop-unit).can_next l.unit-iterator;
  is_finite : (goal.iterator-loop-unit).is_finite l.unit-iterator;
  types : all_types (types_of l.types) (map unit_of (drop (length l.yielded) l.fn.units.items)) ≡ all_types (types_of l.fn.types) (map unit_of l.fn.units.items);
  items : map items_of l.taken_units.items ++ all_items (types_of l.types) (map unit_of (drop (length l.yielded) l.fn.units.items)) ≡ all_items (types_of l.fn.types) (map unit_of l.fn.units.items);
}
