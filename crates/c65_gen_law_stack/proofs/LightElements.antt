-- The lines of light elements of small arrays and of light low bytes leave ptr2.
use Rattle.std.proofs.Common.{◌≡◌, ℕ, ◌==◌, Bool, true, false, not, Option, Some, None, List, [], ◌∷◌, ◌++◌, refl}
use Rattle.std.specs.Prelude.{◌&&◌, is_some, option_and_then}
use Rattle.std.proofs.lemmas.Bool.{and_parts}
use Rattle.c65_base.specs.declared.operators.BinaryOp.{BinaryOp}
use Rattle.c65_ints.specs.declared.types.IntType.{IntType}
use Rattle.c65_csem.specs.Trees.{Typed, node, convert, binary, load}
use Rattle.c65_mach.specs.declared.rows.Op.TheVariants.{Asl, Lda, Tay}
use Rattle.c65_code.specs.declared.line.Line.{Line}
use Rattle.c65_genframe.specs.Frames.{Framed}
use Rattle.c65_genload.specs.Words.{implied, shift_a}
use Rattle.c65_genload.specs.declared.places.Place.{Place}
use Rattle.c65_genload.specs.declared.places.Place.TheVariants as places
use Rattle.c65_genload.specs.declared.places.Access.{Access}
use Rattle.c65_genload.specs.declared.places.Access.TheVariants.{Whole, Part}
use Rattle.c65_genload.specs.declared.places.Extent.{Extent}
use Rattle.c65_genload.specs.declared.places.Extent.TheVariants.{One}
use Rattle.c65_genload.specs.Places.{extent_of}
use Rattle.c65_gendirect.specs.declared.bytes.OperandByte.{OperandByte}
use Rattle.c65_gendirect.specs.declared.direct.Direct.{Direct}
use Rattle.c65_gendirect.specs.Bytes.{byte_of}
use Rattle.c65_gendirect.specs.Pointed.{behind_pointer_code}
use Rattle.c65_genexpr.specs.declared.elements.Element.{Element}
use Rattle.c65_genexpr.specs.declared.operands.Operands.{Operands}
use Rattle.c65_genexpr.specs.declared.operating.Form.{Form}
use Rattle.c65_genexpr.specs.declared.wanted.Wanted.TheVariants.{Value}
use Rattle.c65_genexpr.specs.Comparing.{low_code}
use Rattle.c65_genexpr.specs.Operating.{pair_of, left_form, direct_left, by_left, by_right, is_light_form, is_light_place, is_signed_char, is_light_extent, is_light_access, is_light_load, is_light_element, is_light_operator}
use Rattle.c65_genexpr.specs.Elements.{element_or, by_index, doublings, doubled_code, scaled_by, element_bytes_code, element_value_code, element_byte_code, loaded_element, reached_code}
use Rattle.c65_genexpr.specs.Lows.{byte_in, low_operand_or, low_load_by}
use Rattle.c65_genexpr.specs.Code.{node_code, low_value_code}
use Rattle.c65_gen_law_stack.proofs.LightPieces.{Spares, spares_then, spares_if, spares_none, narrow_spares, byte_spares}

-- ---- elements

doubled_spares : (n : ℕ) → Spares (doubled_code n)
doubled_spares n =
    let one : Spares (shift_a Asl ∷ []) = record { all = refl } in
    let two : Spares (shift_a Asl ∷ shift_a Asl ∷ []) = record { all = refl } in
    let three : Spares (shift_a Asl ∷ shift_a Asl ∷ shift_a Asl ∷ []) = record { all = refl } in
    spares_if (n == 0) spares_none (spares_if (n == 1) one (spares_if (n == 2) two three))

scaled_spares : (size : ℕ) (n : Option ℕ) → is_some n ≡ true → Spares (scaled_by size n)
scaled_spares size (Some n) h = doubled_spares n
scaled_spares size None h = absurd cc

reached_spares : (x : Element) → is_some (doublings x.size) ≡ true → Spares (reached_code x)
reached_spares x h = let tay : Spares (implied Tay ∷ []) = record { all = refl } in spares_then (scaled_spares x.size (doublings x.size) h) tay

bytes_spare : (x : Element) (e : Extent) → Spares (element_bytes_code x e)
bytes_spare x One = record { all = refl }
bytes_spare x _ = record { all = refl }

value_spares : (x : Element) (kind : IntType) → is_light_element (x, kind) ≡ true → Spares (element_value_code x kind)
value_spares x kind h =
    let both = and_parts (is_some (doublings x.size)) (not (is_signed_char kind)) h in
    spares_then (reached_spares x both.0) (spares_then (bytes_spare x (extent_of kind)) (narrow_spares kind both.1))

low_spare : (x : Element) (kind : IntType) → is_light_element (x, kind) ≡ true → Spares (element_byte_code x)
low_spare x kind h =
    let byte : Spares (by_index Lda x.sym x.at ∷ []) = record { all = refl } in
    spares_then (reached_spares x (and_parts (is_some (doublings x.size)) (not (is_signed_char kind)) h).0) byte

-- an element, by its index, or other lines
pub element_spares : {index other : List Line} (o : Option (Element × IntType)) (by plain : Bool) → element_or o (λ x. is_light_element x && by) plain ≡ true → (by ≡ true → Spares index) → (plain ≡ true → Spares other) → Spares (element_or o (λ x. loaded_element Value x index) other)
element_spares None by plain h left right = right h
element_spares (Some x) by plain h left right = let both = and_parts (is_light_element x) by h in spares_then (left both.1) (value_spares x.0 x.1 both.0)

pub low_element_spares : {index other : List Line} (o : Option (Element × IntType)) (by plain : Bool) → element_or o (λ x. is_light_element x && by) plain ≡ true → (by ≡ true → Spares index) → (plain ≡ true → Spares other) → Spares (element_or o (λ x. index ++ element_byte_code x.0) other)
low_element_spares None by plain h left right = right h
low_element_spares (Some x) by plain h left right = let both = and_parts (is_light_element x) by h in spares_then (left both.1) (low_spare x.0 x.1 both.0)

-- ---- low bytes

pub low_spares_by : {code : List Line} (o : Option OperandByte) → Spares code → Spares (low_code o code)
low_spares_by None c = c
low_spares_by (Some d) c = byte_spares Lda d refl

pub low_operand_spares : {other : List Line} (o : Option OperandByte) (code : OperandByte → List Line) → ((d : OperandByte) → Spares (code d)) → Spares other → Spares (low_operand_or o code other)
low_operand_spares None code c d = d
low_operand_spares (Some x) code c d = c x

low_load_spares : {base other : List Line} (o : Option ℕ) → Spares base → Spares other → Spares (low_load_by o base other)
low_load_spares None c d = d
low_load_spares (Some at) c d = let byte : Spares (behind_pointer_code at One) = record { all = refl } in spares_then c byte

base_light : {a : List Line} (place : Place) (access : Access) (light : Bool) → is_light_load place access light ≡ true → (is_light_place place ≡ true → Spares a) → (light ≡ true → Spares a) → Spares a
base_light (places.Far at) (Whole kind) light h known far = far (and_parts (not (is_signed_char kind)) light (and_parts (is_light_extent (extent_of kind)) (not (is_signed_char kind) && light) h).1).1
base_light (places.Far at) (Part g) light h known far = far (and_parts (is_light_access (Part g)) light h).1
base_light (places.Bank b) access light h known far = known refl
base_light (places.Near at) access light h known far = known refl
base_light (places.Data s at) access light h known far = known refl

pub low_loading_spares : {base other : List Line} (o : Option ℕ) (place : Place) (access : Access) (light : Bool) → is_light_load place access light ≡ true → (is_light_place place ≡ true → Spares base) → (light ≡ true → Spares base) → Spares other
    → Spares (low_load_by o base other)
low_loading_spares o place access light h known far other = low_load_spares o (base_light place access light h known far) other

-- what is read where it lies
low_read : (code : List Line) (o : Option OperandByte) (d : OperandByte) → o ≡ Some d → Spares (low_code o code)
low_read code None d h = absurd cc
low_read code (Some x) d h = byte_spares Lda x refl

pub read_spares : (f : Framed) (pushed lo : ℕ) (e : Typed) (d : OperandByte) → byte_in f pushed e ≡ Some d → Spares (low_value_code f pushed lo e)
read_spares f pushed lo (node t (convert e)) d h = low_read _ (byte_in f pushed (node t (convert e))) d h
read_spares f pushed lo (node t (binary op a b)) d h = low_read _ (byte_in f pushed (node t (binary op a b))) d h
read_spares f pushed lo (node t (load e)) d h = low_read _ (byte_in f pushed (node t (load e))) d h
read_spares f pushed lo (node t n) d h = low_read (node_code f pushed lo Value t n) (byte_in f pushed (node t n)) d h

-- the left operand of a light operator is light, or it is read where it lies
left_read : {L : List Line} (op : BinaryOp) (operands : Operands) (d : Direct) (la lb : Bool) (low high : Option OperandByte) → byte_of d 0 ≡ low
    → is_light_operator (by_left true (option_and_then (λ w. left_form op operands w.0 w.1) (pair_of low high))) la lb ≡ true → ((x : OperandByte) → byte_of d 0 ≡ Some x → Spares L) → Spares L
left_read op operands d la lb (Some x) high e h read = read x e
left_read op operands d la lb None None e h read = absurd cc
left_read op operands d la lb None (Some y) e h read = absurd cc

left_by : {L : List Line} (op : BinaryOp) (operands : Operands) (stays : Bool) (o : Option Direct) (la lb : Bool) → is_light_operator (by_left stays (direct_left op operands o)) la lb ≡ true → ((x : OperandByte) → option_and_then (λ d. byte_of d 0) o ≡ Some x → Spares L) → Spares L
left_by op operands false o la lb h read = absurd cc
left_by op operands true None la lb h read = absurd cc
left_by op operands true (Some d) la lb h read = left_read op operands d la lb (byte_of d 0) (byte_of d 1) refl h read

pub left_light : {L : List Line} (op : BinaryOp) (operands : Operands) (x y : Option Form) (stays : Bool) (o : Option Direct) (la lb : Bool) → is_light_operator (by_right x (by_right y (by_left stays (direct_left op operands o)))) la lb ≡ true
    → (la ≡ true → Spares L) → ((d : OperandByte) → option_and_then (λ v. byte_of v 0) o ≡ Some d → Spares L) → Spares L
left_light op operands (Some form) y stays o la lb h light read = light (and_parts (is_light_form form) la h).1
left_light op operands None (Some form) stays o la lb h light read = light (and_parts (is_light_form form) la h).1
left_light op operands None None stays o la lb h light read = left_by op operands stays o la lb h read
