use Rattle.std.proofs.Common.{◌≡◌, ◌≤◌, [], map, drop, length}
use Rattle.c65_base.specs.declared.refusal.Size.TheVariants.{Object}
use Rattle.c65_base.specs.Limits.{limit_of}
use Rattle.c65_ctype.specs.Views.{member_of, field_of, types_of}
use Rattle.c65_ctype.specs.Layouts.{laid}
use Rattle.c65_ctype.specs.Places.{start}
use Rattle.c65_ctype.proofs.table.Types.layout_for.Given as goal

abbrev pub invariant-loop-field : goal.invariant-loop-field
invariant-loop-field l = record {
  can_next : (goal.iterator-loop-field).can_next l.field-iterator;
  is_finite : (goal.iterator-loop-field).is_finite l.field-iterator;
  small : l.cursor.end ≤ limit_of Object;
  so_far : laid (types_of l.self) l.is_union (map member_of l.members.items) l.cursor (map field_of (drop (length l.yielded) l.fn.fields.items)) ≡ laid (types_of l.self) l.is_union [] start (map field_of l.fn.fields.items);
}
