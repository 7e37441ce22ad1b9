-- The forms of an expression's lines: their labels, and that they leave what waits, and regbank.
use Rattle.std.proofs.Common.{ℕ, ◌==◌, inr, Bool, true, false, not, Option, Some, None, [], ◌∷◌, ◌++◌, refl}
use Rattle.c65_base.specs.declared.operators.BinaryOp.{BinaryOp}
use Rattle.c65_base.specs.declared.operators.BinaryOp.TheVariants as ops
use Rattle.c65_ints.specs.declared.types.IntType.{IntType}
use Rattle.c65_mach.specs.declared.rows.Op.TheVariants.{Tay}
use Rattle.c65_code.specs.declared.line.Line.TheVariants.{Label}
use Rattle.c65_code.specs.declared.routine.Width.{Width}
use Rattle.c65_genload.specs.Numbers.{number_code, add_long_code, divide_code}
use Rattle.c65_genwide.specs.Wide.{width_of}
use Rattle.c65_genload.specs.declared.places.Field.{Field}
use Rattle.c65_genload.specs.declared.places.Place.{Place}
use Rattle.c65_genload.specs.declared.places.Access.{Access}
use Rattle.c65_genload.specs.declared.places.Place.TheVariants as places
use Rattle.c65_genload.specs.declared.places.Access.TheVariants.{Whole, Part}
use Rattle.c65_genload.specs.declared.places.Extent.{Extent}
use Rattle.c65_genload.specs.declared.places.Extent.TheVariants as extents
use Rattle.c65_genload.specs.Places.{extent_of}
use Rattle.c65_genload.specs.Words.{implied}
use Rattle.c65_gendirect.specs.declared.bytes.OperandByte.{OperandByte}
use Rattle.c65_genexpr.specs.declared.destination.Destination.{Destination}
use Rattle.c65_genexpr.specs.declared.destination.Destination.TheVariants.{Registers, Pointer}
use Rattle.c65_genexpr.specs.declared.operating.Form.{Form}
use Rattle.c65_genexpr.specs.declared.operating.Form.TheVariants.{Sum, LongSum, Mask, Constant, Word, Under, Indexed, Distance, DistanceUnder}
use Rattle.c65_genexpr.specs.declared.wanted.Wanted.{Wanted}
use Rattle.c65_genexpr.specs.declared.wanted.Wanted.TheVariants.{Value, Test}
use Rattle.c65_genexpr.specs.Wanted.{branch_code, value_test_code, decided_code}
use Rattle.c65_genexpr.specs.Operating.{placed, value_form, pointed_word, pointed_form, form_code}
use Rattle.c65_genexpr.specs.Destination.{arrived, fetch_code}
use Rattle.c65_genexpr.specs.Fields.{byte_test, number_test, loaded_test}
use Rattle.c65_genexpr.specs.Code.{constant_code}
use Rattle.c65_gen_law_lines.proofs.Pieces.{number_piece, load_piece, test_piece, divide_piece}
use Rattle.c65_gen_law_lines.proofs.Pointed.{arrived_piece, arrived_still, behind_pointer_piece, behind_pointer_still, fetch_piece, fetch_still}
use Rattle.c65_gen_law_lines.proofs.FieldForms.{own_bits_piece, own_bits_still}
use Rattle.c65_gen_law_lines.proofs.StackPieces.{number_still, load_still, test_still, divide_still}
use Rattle.c65_gen_law_stack.proofs.BankPieces.{number_clear, load_clear, arrived_clear, behind_pointer_clear, fetch_clear, own_bits_clear, test_clear, divide_clear}
use Rattle.c65_genexpr.specs.Held.{keep_code}
use Rattle.c65_gen_law_stack.proofs.EvenLines.{Labels, No, One, Even, even_end, even_then, even_label, even_piece, even_on, even_jump, even_lines, even_labelled}
use Rattle.c65_gen_law_stack.proofs.EvenShifts.{quick_even, elements_even}
use Rattle.c65_gen_law_stack.proofs.EvenDirects.{word_even, pointer_even, pointed_sum_even, added_even, taken_even, long_mask_even, sense_even}

-- where what is wanted leads
abbrev pub Aim : Wanted → Labels
Aim Value = No
Aim (Test to s) = One to

pub number_even : {X : Labels} (width : Width) (n : ℕ) → Even No X (number_code width n)
number_even width n = even_piece (number_still width n) (number_piece width n).plain (number_clear width n)

pub branch_even : {X : Labels} (s : Bool) (to : ℕ) → X to → Even No X (branch_code s to)
branch_even s to x = sense_even s to x

pub value_test_even : {X : Labels} (width : Width) (s : Bool) (to : ℕ) → X to → Even No X (value_test_code width s to)
value_test_even width s to x = even_on (even_piece (test_still width) (test_piece width).plain (test_clear width)) (branch_even s to x)

fetched_even : {X : Labels} (place : Place) (kind : IntType) (s : Bool) (to : ℕ) → X to → Even No X (fetch_code place (Whole kind) ++ value_test_code (width_of kind) s to)
fetched_even place kind s to x = even_on (even_piece (fetch_still place (Whole kind)) (fetch_piece place (Whole kind)).plain (fetch_clear place (Whole kind))) (value_test_even (width_of kind) s to x)

byte_test_even : {X : Labels} (place : Place) (kind : IntType) (extent : Extent) (s : Bool) (to : ℕ) → X to → Even No X (byte_test place kind extent s to)
byte_test_even (places.Far at) kind extents.One s to x =
    even_on (even_piece (behind_pointer_still at extents.One) (behind_pointer_piece at extents.One).plain (behind_pointer_clear at extents.One)) (branch_even s to x)
byte_test_even place kind extent s to x = fetched_even place kind s to x

number_test_even : {X : Labels} (place : Place) (access : Access) (s : Bool) (to : ℕ) → X to → Even No X (number_test place access s to)
number_test_even place (Whole kind) s to x = byte_test_even place kind (extent_of kind) s to x
number_test_even place (Part g) s to x = even_on (even_piece (load_still place (Part g)) (load_piece place (Part g)).plain (load_clear place (Part g))) (value_test_even (width_of g.kind) s to x)

-- behind the base of a place
pub loaded_test_even : {X : Labels} (field : Option Field) (place : Place) (access : Access) (s : Bool) (to : ℕ) → X to → Even No X (loaded_test field place access s to)
loaded_test_even (Some g) place access s to x = even_on (even_piece (own_bits_still place g) (own_bits_piece place g).plain (own_bits_clear place g)) (branch_even s to x)
loaded_test_even None place access s to x = number_test_even place access s to x

-- behind a comparison by a routine
pub routine_test_even : {X : Labels} (s : Bool) (to : ℕ) → X to → Even No X (implied Tay ∷ branch_code s to)
routine_test_even s to x = even_on (even_lines (implied Tay ∷ []) refl) (branch_even s to x)

decided_even : {X : Labels} (truth s : Bool) (to : ℕ) → X to → Even No X (decided_code truth s to)
decided_even true true to x = even_jump to x
decided_even false false to x = even_jump to x
decided_even true false to x = even_lines [] refl
decided_even false true to x = even_lines [] refl

pub constant_even : (w : Wanted) (width : Width) (n : ℕ) → Even No (Aim w) (constant_code w width n)
constant_even Value width n = number_even width n
constant_even (Test to s) width n = decided_even (not (n == 0)) s to refl

divide_even : {X : Labels} (n : ℕ) → Even No X (divide_code n)
divide_even n = even_piece (divide_still n) (divide_piece n).plain (divide_clear n)

-- a word that begins to wait in ptr2
pub keep_even : {X : Labels} → Even No X keep_code
keep_even = even_lines keep_code refl

placed_even : {X : Labels} (op : BinaryOp) (label : ℕ) → Even No X (placed op label)
placed_even ops.Add label = even_lines [] refl
placed_even ops.Sub label = even_lines [] refl
placed_even _ label = even_labelled label (even_lines [] refl)

pub value_even : {X : Labels} (form : Form) (label : ℕ) → Even No X (value_form form label)
value_even (Sum n) label = added_even n label
value_even (LongSum n) label = even_labelled label (even_lines (add_long_code n) refl)
value_even (Mask op n) label = even_labelled label (long_mask_even op n)
value_even (Constant kind quick) label = quick_even kind quick label
value_even (Word op low high) label = even_on (word_even op low high label) (placed_even op label)
value_even (Under low high) label = even_labelled label (taken_even low high)
value_even (Indexed size low high) label = even_on (elements_even size) (word_even ops.Add low high label)
value_even (Distance size low high) label = even_on (word_even ops.Sub low high label) (divide_even size)
value_even (DistanceUnder size low high) label = even_labelled label (even_on (taken_even low high) (divide_even size))

pointed_word_even : {X : Labels} (op : BinaryOp) (low high : OperandByte) (label : ℕ) → Even No X (pointed_word op low high label)
pointed_word_even ops.Add low high label = even_labelled label (pointed_sum_even low high)
pointed_word_even op low high label = even_on (word_even op low high label) (even_on (placed_even op label) pointer_even)

pointed_form_even : {X : Labels} (form : Form) (label : ℕ) → Even No X (pointed_form form label)
pointed_form_even (Word op low high) label = pointed_word_even op low high label
pointed_form_even (Indexed size low high) label = even_on (elements_even size) (pointed_word_even ops.Add low high label)
pointed_form_even form label = even_on (value_even form label) pointer_even

pub form_even : {X : Labels} (d : Destination) (form : Form) (label : ℕ) → Even No X (form_code d form label)
form_even Registers form label = value_even form label
form_even Pointer form label = pointed_form_even form label

-- an operator's label, and where its result goes
pub end_even : {X : Labels} (d : Destination) (label : ℕ) → Even No X (Label label ∷ arrived d)
end_even d label = even_end (even_then (even_label label) (even_piece (arrived_still d) (arrived_piece d).plain (arrived_clear d))) (λ l z. absurd z) (λ l z. inr z)
