-- Lines of bit-fields: their size, the form of each line, and what they leave waiting.
use Rattle.std.proofs.Common.{ℕ, ◌-◌, ◌/◌, ◌%◌, ◌==◌, List, [], ◌∷◌, refl, arith}
use Rattle.c65_mach.specs.declared.rows.Op.TheVariants.{And, Asl, Lda, Ldy, Lsr, Ora, Ror, Sta}
use Rattle.c65_mach.specs.declared.rows.Mode.TheVariants.{IndirectY}
use Rattle.c65_code.specs.declared.line.Operand.TheVariants.{Zero}
use Rattle.c65_genwide.specs.Lines.{value}
use Rattle.c65_genload.specs.declared.places.Extent.TheVariants.{One, Two}
use Rattle.c65_genload.specs.declared.places.Field.{Field}
use Rattle.c65_genload.specs.declared.places.Place.{Place}
use Rattle.c65_genload.specs.Places.{byte_more, onward, settled}
use Rattle.c65_genload.specs.Numbers.{first, second}
use Rattle.c65_genload.specs.Fields.{is_in_byte, own_bits, is_unit}
use Rattle.c65_genload.specs.Stores.{bytes_store, unit_set}
use Rattle.c65_genchange.specs.declared.spots.Spot.{Spot}
use Rattle.c65_genchange.specs.Spots.{spot_at, reach_code, again_code}
use Rattle.c65_genfield.specs.Bits.{own_bits_code}
use Rattle.c65_genfield.specs.Setting.{own_word, set_word, clear_code, raise_code, byte_code, part_code, number_code, behind_code, byte_set, set_code}
use Rattle.c65_gen_law_lines.proofs.Made.{Piece, piece_append, piece_wider, piece_if, piece_none}
use Rattle.c65_gen_law_lines.proofs.Leaves.{Leaves, leaves_then, leaves_if, leaves_none, Still}
use Rattle.c65_gen_law_lines.proofs.Pieces.{part_piece, up_piece, bytes_store_piece, unit_set_piece, merged_piece, bits_piece}
use Rattle.c65_gen_law_lines.proofs.StackPieces.{holding, bytes_still, turned_still, store_leaves, unit_set_leaves, merged_still, bits_leaves}
use Rattle.c65_gen_law_lines.proofs.EffectForms.{reaches_lda, reaches_sta, reach_piece, again_piece, reach_still, again_still}

-- ---- a test

pub own_bits_piece : (place : Place) (g : Field) → Piece 22 (own_bits_code place g)
own_bits_piece place g =
    let cut : Piece 2 (value And (own_bits g) ∷ []) = record { plain = refl; fit = refl; size = omega arith } in
    piece_append 20 2 _ _ (part_piece (onward place (g.low / 8)) One) cut

pub own_bits_still : (place : Place) (g : Field) → Still (own_bits_code place g)
own_bits_still place g v = leaves_then (bytes_still (onward place (g.low / 8)) One v) (record { to = λ calls. refl })

-- ---- a number

clear_piece : (bits mask : ℕ) → Piece 2 (clear_code bits mask)
clear_piece bits mask = piece_if 2 (bits == mask) [] (value And (255 - mask) ∷ []) (piece_none 2) (record { plain = refl; fit = refl; size = omega arith })

raise_piece : (bits : ℕ) → Piece 2 (raise_code bits)
raise_piece bits = piece_if 2 (bits == 0) [] (value Ora bits ∷ []) (piece_none 2) (record { plain = refl; fit = refl; size = omega arith })

byte_piece : (bits mask : ℕ) (spot : Spot) → Piece 11 (byte_code bits mask spot)
byte_piece bits mask spot =
    let all : Piece 2 (value Lda bits ∷ []) = record { plain = refl; fit = refl; size = omega arith } in
    piece_if 11 (mask == 255) (value Lda bits ∷ reach_code Sta spot) _ (piece_wider 6 11 _ (piece_append 2 4 (value Lda bits ∷ []) (reach_code Sta spot) all (reach_piece Sta spot reaches_sta)) (omega arith))
    (piece_append 4 7 (reach_code Lda spot) _ (reach_piece Lda spot reaches_lda) (piece_append 2 5 (clear_code bits mask) _ (clear_piece bits mask) (piece_append 2 3 (raise_code bits) (again_code Sta spot) (raise_piece bits) (again_piece Sta spot reaches_sta))))

part_piece_of : (bits mask : ℕ) (spot : Spot) → Piece 11 (part_code bits mask spot)
part_piece_of bits mask spot = piece_if 11 (mask == 0) [] (byte_code bits mask spot) (piece_none 11) (byte_piece bits mask spot)

pub number_piece : (place : Place) (g : Field) (n : ℕ) → Piece 22 (number_code place g n)
number_piece place g n =
    piece_append 11 11 _ _ (part_piece_of (first (set_word g n)) (first (own_word g)) (spot_at place 0)) (part_piece_of (second (set_word g n)) (second (own_word g)) (spot_at place 1))

byte_still : (bits mask : ℕ) (spot : Spot) → Still (byte_code bits mask spot)
byte_still bits mask spot v =
    leaves_if (mask == 255) (leaves_then {a = value Lda bits ∷ []} (record { to = λ calls. refl }) (reach_still Sta spot v))
    (leaves_then (reach_still Lda spot v) (leaves_then (leaves_if (bits == mask) leaves_none (record { to = λ calls. refl })) (leaves_then (leaves_if (bits == 0) leaves_none (record { to = λ calls. refl })) (again_still Sta spot v))))

part_still : (bits mask : ℕ) (spot : Spot) → Still (part_code bits mask spot)
part_still bits mask spot v = leaves_if (mask == 0) leaves_none (byte_still bits mask spot v)

pub number_still : (place : Place) (g : Field) (n : ℕ) → Still (number_code place g n)
number_still place g n v = leaves_then (part_still (first (set_word g n)) (first (own_word g)) (spot_at place 0) v) (part_still (second (set_word g n)) (second (own_word g)) (spot_at place 1) v)

-- ---- the value in A

pub behind_piece : (pointer at : ℕ) (g : Field) → Piece 17 (behind_code pointer at g)
behind_piece pointer at g =
    let way : Piece 2 (value Ldy (byte_more at (g.low / 8)) ∷ []) = record { plain = refl; fit = refl; size = omega arith } in
    piece_append 4 13 _ _ (up_piece (g.low % 8))
    (piece_append 2 11 (value Ldy (byte_more at (g.low / 8)) ∷ []) _ way (merged_piece IndirectY (Zero pointer) (own_bits g) (record { plain = refl; fit = refl; size = omega arith }) (record { plain = refl; fit = refl; size = omega arith })))

pub behind_still : (pointer at : ℕ) (g : Field) → Still (behind_code pointer at g)
behind_still pointer at g v =
    leaves_then (turned_still (g.low % 8) Asl Lsr Ror v) (leaves_then {a = value Ldy (byte_more at (g.low / 8)) ∷ []} (record { to = λ calls. refl }) (merged_still IndirectY (Zero pointer) (own_bits g) v))

byte_set_piece : (place : Place) (g : Field) → Piece 28 (byte_set place g)
byte_set_piece place g = piece_append 4 24 _ _ (up_piece (g.low % 8)) (bits_piece (onward (settled place) (g.low / 8)) (own_bits g))

pub set_piece : (place : Place) (g : Field) → Piece 66 (set_code place g)
set_piece place g =
    piece_if 66 (is_in_byte g) (byte_set place g) _ (piece_wider 28 66 _ (byte_set_piece place g) (omega arith))
    (piece_if 66 (is_unit g) (bytes_store place Two) (unit_set place g) (piece_wider 16 66 _ (bytes_store_piece place Two) (omega arith)) (unit_set_piece place g))

byte_set_leaves : (place : Place) (g : Field) (v : List ℕ) → Leaves (holding place v) (byte_set place g) v
byte_set_leaves place g v = leaves_then (turned_still (g.low % 8) Asl Lsr Ror (holding place v)) (bits_leaves place (g.low / 8) (own_bits g) v)

pub set_leaves : (place : Place) (g : Field) (v : List ℕ) → Leaves (holding place v) (set_code place g) v
set_leaves place g v = leaves_if (is_in_byte g) (byte_set_leaves place g v) (leaves_if (is_unit g) (store_leaves place Two v) (unit_set_leaves place g v))
