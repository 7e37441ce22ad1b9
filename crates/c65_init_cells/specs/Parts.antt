-- The parts of an object to which the values of an initialiser go (C90 6.5.7).
use Rattle.std.specs.Prelude.{ℕ, ◌+◌, ◌^◌, ◌-◌, min, ◌&&◌, nat_lt, if◌then◌else◌, List, [], ◌∷◌, drop, slice_get, Option, Some, None, is_some, Result, Ok, ◌*◌}
use Rattle.c65_base.specs.Answers.{Fault, ◌>>=◌}
use Rattle.c65_ctype.specs.Sizes.{limited}
use Rattle.c65_ctype.specs.Trees.{QTy, MemberTy, LayoutTy, TypesTy}
use Rattle.c65_ctype.specs.Tables.{layout_at}
use Rattle.c65_ctype.specs.Views.{qty_of}
use Rattle.c65_init_cells.specs.declared.parts.Part.{Part}

-- a part: its type, the byte where it begins, and a bit-field's lowest bit and width
pub record PartTy : Type 0 where
  pub ty : QTy
  pub offset : ℕ
  pub bits : Option (ℕ × ℕ)

abbrev pub part_of : Part → PartTy
part_of p = record { ty = qty_of p.ty; offset = p.offset; bits = p.bits }

-- a part that is no bit-field
abbrev pub plain_part : QTy → ℕ → PartTy
plain_part t offset = record { ty = t; offset = offset; bits = None }

-- an element of an array; no object has more than 65,535 bytes
abbrev pub element_at : QTy → ℕ → ℕ → ℕ → Result PartTy Fault
element_at element base size index = limited (base + size * index) >>= (λ offset. Ok (plain_part element offset))

-- the place of the first member with a name, where the first of these stands at a place
abbrev pub named_from : List MemberTy → ℕ → Option ℕ
named_from [] at = None
named_from (m ∷ ms) at = if is_some m.name then Some at else named_from ms (at + 1)

abbrev pub member_as_part : ℕ → ℕ → Option MemberTy → Option (PartTy × ℕ)
member_as_part offset at None = None
member_as_part offset at (Some m) = Some (record { ty = m.ty; offset = min (offset + m.offset) (2 ^ 32 - 1); bits = m.bits }, at + 1)

abbrev pub named_part : ℕ → List MemberTy → Option ℕ → Option (PartTy × ℕ)
named_part offset ms None = None
named_part offset ms (Some at) = member_as_part offset at (slice_get ms at)

-- the next member with a name from a place on, and the place behind it; of a union the first one alone
abbrev pub next_part : ℕ → ℕ → Option LayoutTy → Option (PartTy × ℕ)
next_part offset from None = None
next_part offset from (Some l) = if l.is_union && nat_lt 0 from then None else named_part offset l.members (named_from (drop from l.members) from)

abbrev pub next_member : TypesTy → ℕ → ℕ → ℕ → Option (PartTy × ℕ)
next_member types tag offset from = next_part offset from (layout_at types tag)

abbrev pub pair_of : Part × ℕ → PartTy × ℕ
pair_of x = (part_of x.0, x.1)
