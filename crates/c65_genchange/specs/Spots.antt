-- Bytes that are changed where they lie.
use Rattle.std.specs.Prelude.{ℕ, ◌+◌, ◌==◌, ◌&&◌, if◌then◌else◌, Bool, true, false, Option, Some, None, List, [], ◌∷◌}
use Rattle.c65_mach.specs.declared.rows.Op.{Op}
use Rattle.c65_mach.specs.declared.rows.Op.TheVariants.{Iny, Ldy, Sta, Stx}
use Rattle.c65_code.specs.declared.line.Line.{Line}
use Rattle.c65_genwide.specs.Lines.{value}
use Rattle.c65_genload.specs.declared.places.Place.{Place}
use Rattle.c65_genload.specs.declared.places.Place.TheVariants as places
use Rattle.c65_genload.specs.declared.places.Access.{Access}
use Rattle.c65_genload.specs.declared.places.Access.TheVariants.{Whole, Part}
use Rattle.c65_genload.specs.declared.places.Extent.{Extent}
use Rattle.c65_genload.specs.declared.places.Extent.TheVariants.{One, Two}
use Rattle.c65_genload.specs.Words.{sp, ptr1, regbank, implied, zero_page, by_y, absolute}
use Rattle.c65_genload.specs.Places.{byte_more, word_more, extent_of}
use Rattle.c65_genchange.specs.declared.spots.Spot.{Spot}
use Rattle.c65_genchange.specs.declared.spots.Spot.TheVariants.{Behind, Data, Zero}
use Rattle.c65_genchange.specs.declared.spots.Target.{Target}
use Rattle.c65_genchange.specs.declared.spots.Target.TheVariants.{Byte, Word}

-- so far behind the first byte of a place; of one that is anywhere the address is in ptr1
abbrev pub spot_at : Place → ℕ → Spot
spot_at (places.Bank at) i = Zero (byte_more (byte_more regbank at) i)
spot_at (places.Near at) i = Behind sp (byte_more at i)
spot_at (places.Data sym at) i = Data sym (word_more at i)
spot_at (places.Far at) i = Behind ptr1 (byte_more at i)

-- an address in AX goes to ptr1
abbrev pub point_code : Place → List Line
point_code (places.Far at) = zero_page Sta ptr1 ∷ zero_page Stx (ptr1 + 1) ∷ []
point_code place = []

-- numbers of one or two bytes are changed where they lie
abbrev pub target_by : Place → Extent → Option Target
target_by place One = Some (Byte (spot_at place 0))
target_by place Two = Some (Word (spot_at place 0) (spot_at place 1))
target_by place _ = None

abbrev pub target_of : Place → Access → Option Target
target_of place (Whole kind) = target_by place (extent_of kind)
target_of place (Part field) = None

-- an instruction on the byte, and one more on the same byte
abbrev pub reach_code : Op → Spot → List Line
reach_code op (Behind pointer at) = value Ldy at ∷ by_y op pointer ∷ []
reach_code op (Data sym at) = absolute op sym at ∷ []
reach_code op (Zero at) = zero_page op at ∷ []

abbrev pub again_code : Op → Spot → List Line
again_code op (Behind pointer at) = by_y op pointer ∷ []
again_code op (Data sym at) = absolute op sym at ∷ []
again_code op (Zero at) = zero_page op at ∷ []

-- whether a byte is the next one behind another, both reached by Y
abbrev pub is_next : Spot → Spot → Bool
is_next (Behind pointer at) (Behind other next) = (pointer == other) && (next == byte_more at 1)
is_next first second = false

-- an instruction on a byte, where Y still reaches the one before it
abbrev pub beside_code : Op → Spot → Spot → List Line
beside_code op first second = if is_next first second then implied Iny ∷ again_code op second else reach_code op second

-- whether an instruction counts the byte up or down by itself
abbrev pub is_counted : Spot → Bool
is_counted (Behind pointer at) = false
is_counted _ = true

abbrev pub all_counted : Target → Bool
all_counted (Byte low) = is_counted low
all_counted (Word low high) = is_counted low && is_counted high
