-- The lines that set bit-fields write nothing of regbank, where the unit is not there.
use Rattle.std.proofs.Common.{ℕ, ◌-◌, ◌/◌, ◌%◌, ◌==◌, [], ◌∷◌, refl}
use Rattle.c65_mach.specs.declared.rows.Op.TheVariants.{And, Lda, Ldy, Ora}
use Rattle.c65_mach.specs.declared.rows.Mode.TheVariants.{IndirectY}
use Rattle.c65_code.specs.declared.line.Operand.TheVariants.{Zero}
use Rattle.c65_genwide.specs.Lines.{value}
use Rattle.c65_genload.specs.declared.places.Field.{Field}
use Rattle.c65_genload.specs.declared.places.Place.{Place}
use Rattle.c65_genload.specs.declared.places.Place.TheVariants as places
use Rattle.c65_genload.specs.Places.{byte_more}
use Rattle.c65_genload.specs.declared.places.Extent.TheVariants.{Two}
use Rattle.c65_genload.specs.Numbers.{first, second}
use Rattle.c65_genload.specs.Fields.{is_in_byte, own_bits, is_unit}
use Rattle.c65_genchange.specs.declared.spots.Spot.{Spot}
use Rattle.c65_genchange.specs.Spots.{spot_at}
use Rattle.c65_genfield.specs.Setting.{own_word, set_word, byte_code, number_code, behind_code, set_code}
use Rattle.c65_genexpr.specs.Held.{ptr2}
use Rattle.c65_gen_law_stack.proofs.BankPieces.{Clear, clear_then, clear_if, clear_none, IsOff, up_clear, bytes_store_clear, unit_set_clear, merged_clear, bits_clear}
use Rattle.c65_gen_law_stack.proofs.ChangeClears.{IsOffByte, load_clear, store_clear, put_clear}

byte_clear : (bits mask : ℕ) (spot : Spot) → IsOffByte spot → Clear (byte_code bits mask spot)
byte_clear bits mask spot off =
    let all : Clear (value Lda bits ∷ []) = record { all = refl } in
    let cut : Clear (value And (255 - mask) ∷ []) = record { all = refl } in
    let fill : Clear (value Ora bits ∷ []) = record { all = refl } in
    clear_if (mask == 255) (clear_then all (put_clear spot off))
    (clear_then (load_clear spot off) (clear_then (clear_if (bits == mask) clear_none cut) (clear_then (clear_if (bits == 0) clear_none fill) (store_clear spot off))))

spot_off : (place : Place) (n : ℕ) → IsOff place → IsOffByte (spot_at place n)
spot_off (places.Bank b) n off = absurd off
spot_off (places.Near at) n off = tt
spot_off (places.Data s at) n off = tt
spot_off (places.Far at) n off = tt

pub number_clear : (place : Place) (g : Field) (n : ℕ) → IsOff place → Clear (number_code place g n)
number_clear place g n off =
    clear_then (clear_if (first (own_word g) == 0) clear_none (byte_clear (first (set_word g n)) (first (own_word g)) (spot_at place 0) (spot_off place 0 off)))
    (clear_if (second (own_word g) == 0) clear_none (byte_clear (second (set_word g n)) (second (own_word g)) (spot_at place 1) (spot_off place 1 off)))

pub behind_clear : (at : ℕ) (g : Field) → Clear (behind_code ptr2 at g)
behind_clear at g =
    let way : Clear (value Ldy (byte_more at (g.low / 8)) ∷ []) = record { all = refl } in
    clear_then (up_clear (g.low % 8)) (clear_then way (merged_clear IndirectY (Zero ptr2) (own_bits g) (record { all = refl }) (record { all = refl })))

pub set_clear : (place : Place) (g : Field) → IsOff place → Clear (set_code place g)
set_clear place g off =
    clear_if (is_in_byte g) (clear_then (up_clear (g.low % 8)) (bits_clear place (g.low / 8) (own_bits g) off)) (clear_if (is_unit g) (bytes_store_clear place Two off) (unit_set_clear place g off))
