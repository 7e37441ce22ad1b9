-- Lines of elements of small arrays and of low bytes: where they lead, and that they write nothing of regbank.
use Rattle.std.proofs.Common.{ℕ, ◌+◌, ◌==◌, Bool, not, Option, Some, None, [], ◌∷◌, refl}
use Rattle.std.specs.Prelude.{◌&&◌}
use Rattle.c65_ints.specs.declared.types.IntType.{IntType}
use Rattle.c65_mach.specs.declared.rows.Op.TheVariants.{Asl, Lda, Ldx, Ldy, Ora, Pha, Pla, Sta, Stx, Tax, Tay, Txa}
use Rattle.c65_genload.specs.Words.{implied, shift_a, zero_page}
use Rattle.c65_genload.specs.declared.places.Extent.{Extent}
use Rattle.c65_genload.specs.declared.places.Extent.TheVariants.{One}
use Rattle.c65_genload.specs.Places.{word_more, extent_of}
use Rattle.c65_gendirect.specs.declared.bytes.OperandByte.{OperandByte}
use Rattle.c65_gendirect.specs.Bytes.{takes_y}
use Rattle.c65_genexpr.specs.declared.elements.Element.{Element}
use Rattle.c65_genexpr.specs.Places.{more}
use Rattle.c65_genexpr.specs.Held.{ptr2, keep_byte_code}
use Rattle.c65_genexpr.specs.Elements.{by_index, doublings, doubled_code, scaled_by, scaled_code, reached_code, element_bytes_code, element_value_code, element_byte_code, either_byte_code, element_test_code}
use Rattle.c65_geneffect.specs.Placing.{stored_code, high_read_code, read_code, index_behind_code, behind_code, waiting_code, held_code, value_waits_code, high_later_code, later_code}
use Rattle.c65_gen_law_stack.proofs.EvenLines.{Labels, No, Even, even_on, even_if, even_lines}
use Rattle.c65_gen_law_stack.proofs.EvenDirects.{byte_even}
use Rattle.c65_gen_law_stack.proofs.EvenForms.{branch_even}
use Rattle.c65_gen_law_stack.proofs.EvenShifts.{narrow_even, elements_even}

pub keep_byte_even : {X : Labels} → Even No X keep_byte_code
keep_byte_even = even_lines keep_byte_code refl

-- ---- elements that are read

doubled_even : {X : Labels} (n : ℕ) → Even No X (doubled_code n)
doubled_even n = even_if (n == 0) (even_lines [] refl) (even_if (n == 1) (even_lines (shift_a Asl ∷ []) refl) (even_if (n == 2) (even_lines (shift_a Asl ∷ shift_a Asl ∷ []) refl) (even_lines (shift_a Asl ∷ shift_a Asl ∷ shift_a Asl ∷ []) refl)))

scaled_by_even : {X : Labels} (size : ℕ) (n : Option ℕ) → Even No X (scaled_by size n)
scaled_by_even size None = elements_even size
scaled_by_even size (Some n) = doubled_even n

scaled_even : {X : Labels} (size : ℕ) → Even No X (scaled_code size)
scaled_even size = scaled_by_even size (doublings size)

reached_even : {X : Labels} (x : Element) → Even No X (reached_code x)
reached_even x = even_on (scaled_even x.size) (even_lines (implied Tay ∷ []) refl)

element_bytes_even : {X : Labels} (x : Element) (e : Extent) → Even No X (element_bytes_code x e)
element_bytes_even x One = even_lines (by_index Lda x.sym x.at ∷ []) refl
element_bytes_even x _ = even_lines (by_index Ldx x.sym (more x.at 1) ∷ by_index Lda x.sym x.at ∷ []) refl

pub element_value_even : {X : Labels} (x : Element) (kind : IntType) → Even No X (element_value_code x kind)
element_value_even x kind = even_on (reached_even x) (even_on (element_bytes_even x (extent_of kind)) (narrow_even kind))

pub element_byte_even : {X : Labels} (x : Element) → Even No X (element_byte_code x)
element_byte_even x = even_on (reached_even x) (even_lines (by_index Lda x.sym x.at ∷ []) refl)

either_byte_even : {X : Labels} (x : Element) (e : Extent) → Even No X (either_byte_code x e)
either_byte_even x One = even_lines (by_index Lda x.sym x.at ∷ []) refl
either_byte_even x _ = even_lines (by_index Lda x.sym x.at ∷ by_index Ora x.sym (more x.at 1) ∷ []) refl

pub element_test_even : {X : Labels} (x : Element) (kind : IntType) (s : Bool) (to : ℕ) → X to → Even No X (element_test_code x kind s to)
element_test_even x kind s to there = even_on (reached_even x) (even_on (either_byte_even x (extent_of kind)) (branch_even s to there))

-- ---- elements that are written

stored_even : {X : Labels} (x : Element) (e : Extent) → Even No X (stored_code x e)
stored_even x One = even_lines (by_index Sta x.sym x.at ∷ []) refl
stored_even x _ = even_lines (by_index Sta x.sym x.at ∷ implied Txa ∷ by_index Sta x.sym (word_more x.at 1) ∷ []) refl

high_read_even : {X : Labels} (x : Element) (high : Option OperandByte) → Even No X (high_read_code x high)
high_read_even x None = even_lines [] refl
high_read_even x (Some high) = even_on (byte_even Lda high refl) (even_lines (by_index Sta x.sym (word_more x.at 1) ∷ []) refl)

pub read_even : {X : Labels} (x : Element) (low : OperandByte) (high : Option OperandByte) → Even No X (read_code x low high)
read_even x low high = even_on (reached_even x) (even_on (byte_even Lda low refl) (even_on (even_lines (by_index Sta x.sym x.at ∷ []) refl) (high_read_even x high)))

index_behind_even : {X : Labels} (size : ℕ) (e : Extent) (d : OperandByte) → Even No X (index_behind_code size e d)
index_behind_even size One d = even_on (even_lines (implied Tax ∷ []) refl) (even_on (byte_even Lda d refl) (even_on (scaled_even size) (even_lines (implied Tay ∷ implied Txa ∷ []) refl)))
index_behind_even size _ d = even_on (even_lines (implied Pha ∷ []) refl) (even_on (byte_even Lda d refl) (even_on (scaled_even size) (even_lines (implied Tay ∷ implied Pla ∷ []) refl)))

pub behind_even : {X : Labels} (x : Element) (e : Extent) (d : OperandByte) → Even No X (behind_code x e d)
behind_even x e d = even_on (even_if ((x.size == 1) && not (takes_y d)) (byte_even Ldy d refl) (index_behind_even x.size e d)) (stored_even x e)

pub waiting_even : {X : Labels} (x : Element) → Even No X (waiting_code x)
waiting_even x = even_on (scaled_even x.size) (even_lines (zero_page Sta ptr2 ∷ []) refl)

pub held_even : {X : Labels} (x : Element) (e : Extent) → Even No X (held_code x e)
held_even x e = even_on (even_lines (zero_page Ldy ptr2 ∷ []) refl) (stored_even x e)

pub value_waits_even : {X : Labels} (e : Extent) → Even No X (value_waits_code e)
value_waits_even One = even_lines (zero_page Sta ptr2 ∷ []) refl
value_waits_even _ = even_lines (zero_page Sta ptr2 ∷ zero_page Stx (ptr2 + 1) ∷ []) refl

high_later_even : {X : Labels} (x : Element) (e : Extent) → Even No X (high_later_code x e)
high_later_even x One = even_lines [] refl
high_later_even x _ = even_lines (zero_page Lda (ptr2 + 1) ∷ by_index Sta x.sym (word_more x.at 1) ∷ []) refl

pub later_even : {X : Labels} (x : Element) (e : Extent) → Even No X (later_code x e)
later_even x e = even_on (reached_even x) (even_on (even_lines (zero_page Lda ptr2 ∷ by_index Sta x.sym x.at ∷ []) refl) (high_later_even x e))
