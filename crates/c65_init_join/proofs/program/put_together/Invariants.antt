use Rattle.std.proofs.Common.{◌≡◌, length, map, drop}
use Rattle.c65_csem.specs.Views.{unit_of}
use Rattle.c65_ctype.specs.Views.{types_of}
use Rattle.c65_init_join.specs.Items.{items_of}
use Rattle.c65_init_join.specs.Joined.{no_items, with_all}
use Rattle.c65_init_join.specs.Numbers.{assigned_of}
use Rattle.c65_init_join.specs.Tables.{table_of}
use Rattle.c65_init_join.proofs.program.put_together.Given as goal

abbrev pub invariant-loop-unit : goal.invariant-loop-unit
invariant-loop-unit l = record {
  can_next : (goal.iterator-loop-unit).can_next l.unit-iterator;
  is_finite : (goal.iterator-loop-unit).is_finite l.unit-iterator;
  count : l.i ≡ length l.yielded;
  so_far : with_all l.names l.signed_chars (table_of l.table) (unit_of l.program) (map items_of (drop (length l.yielded) l.fn.units.items)) (drop l.i (map assigned_of l.all)) ≡ with_all l.names l.signed_chars (table_of l.table) (no_items (types_of l.fn.types)) (map items_of l.fn.units.items) (map assigned_of l.all);
}
