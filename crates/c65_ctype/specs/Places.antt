-- Where one member lies (C90 6.5.2.1). There is no padding. Bit-fields fill a unit of two bytes from
-- its lowest bit; one that does not fit begins the next unit; one of width 0, and a member that is no
-- bit-field, close the unit.
use Rattle.std.specs.Prelude.{ℕ, ◌+◌, Bool, Option, Some, None, Result, Ok, Err, nat_le, ◌==◌, max, if◌then◌else◌}
use Rattle.c65_base.specs.declared.refusal.Size.TheVariants.{Object}
use Rattle.c65_base.specs.Limits.{limit_of}
use Rattle.c65_base.specs.Answers.{Fault, large}
use Rattle.c65_ctype.specs.declared.place.Spot.{Spot}
use Rattle.c65_ctype.specs.declared.place.BitUnit.{BitUnit}
use Rattle.c65_ctype.specs.declared.place.Cursor.{Cursor}

-- so many more bytes, unless that is more than a type may have
abbrev pub room : Cursor → ℕ → Option BitUnit → Spot → Result (Spot × Cursor) Fault
room p more unit spot = if nat_le (p.end + more) (limit_of Object) then Ok (spot, record { end = p.end + more; unit = unit }) else Err (large Object (p.end + more))

-- a bit-field at the lowest bit of a new unit
abbrev pub new_unit : Cursor → ℕ → Result (Spot × Cursor) Fault
new_unit p w = room p 2 (Some (record { offset = p.end; used = w })) (record { offset = p.end; bits = Some (0, w) })

-- a bit-field behind those of the open unit, where it fits
abbrev pub bits_in : Cursor → ℕ → Option BitUnit → Result (Spot × Cursor) Fault
bits_in p w None = new_unit p w
bits_in p w (Some u) = if nat_le (u.used + w) 16 then room p 0 (Some (record { offset = u.offset; used = u.used + w })) (record { offset = u.offset; bits = Some (u.used, w) }) else new_unit p w

abbrev pub structure_spot : Cursor → ℕ → Option ℕ → Result (Spot × Cursor) Fault
structure_spot p size None = room p size None (record { offset = p.end; bits = None })
structure_spot p size (Some w) = if w == 0 then room p 0 None (record { offset = p.end; bits = Some (0, 0) }) else bits_in p w p.unit

-- each member of a union lies at its first byte, and the largest gives the union its bytes
abbrev pub union_spot : Cursor → ℕ → Option ℕ → Spot × Cursor
union_spot p size None = (record { offset = 0; bits = None }, record { end = max p.end size; unit = None })
union_spot p size (Some w) = (record { offset = 0; bits = Some (0, w) }, record { end = max p.end (if w == 0 then 0 else 2); unit = None })

abbrev pub spot_for : Bool → Cursor → ℕ → Option ℕ → Result (Spot × Cursor) Fault
spot_for is_union p size width = if is_union then Ok (union_spot p size width) else structure_spot p size width

-- no bytes yet
abbrev pub start : Cursor
start = record { end = 0; unit = None }
