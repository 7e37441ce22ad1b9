-- The operators that give a number or a pointer (C90 6.3.5 to 6.3.7, 6.3.10 to 6.3.12): their forms, and the lines of each from
-- the lines of its two operands.
use Rattle.std.specs.Prelude.{ℕ, ◌*◌, ◌%◌, nat_lt, nat_le, ◌==◌, ◌&&◌, ◌||◌, not, Bool, true, false, if◌then◌else◌, Option, Some, None, is_some, option_map, option_and_then, List, [], ◌∷◌, ◌++◌}
use Rattle.c65_base.specs.declared.operators.BinaryOp.{BinaryOp}
use Rattle.c65_base.specs.declared.operators.BinaryOp.TheVariants.{Add, Sub, BitAnd, BitXor, BitOr}
use Rattle.c65_ints.specs.declared.types.IntType.{IntType}
use Rattle.c65_ints.specs.declared.types.IntType.TheVariants.{SChar, UInt}
use Rattle.c65_ints.specs.Ranges.{is_signed_of}
use Rattle.c65_ctype.specs.Trees.{Ty, void, type_in}
use Rattle.c65_ctype.specs.Views.{types_of}
use Rattle.c65_csem.specs.Trees.{Typed, node, constant, null, literal, object, func, deref, member, load, address, decay, convert, binary, step}
use Rattle.c65_code.specs.declared.line.Line.{Line}
use Rattle.c65_code.specs.declared.line.Line.TheVariants.{Label}
use Rattle.c65_code.specs.declared.routine.Width.{Width}
use Rattle.c65_code.specs.declared.routine.Width.TheVariants.{Ax, Eax}
use Rattle.c65_genframe.specs.Frames.{Framed}
use Rattle.c65_genwide.specs.Wide.{width_of, wide_code}
use Rattle.c65_genload.specs.Numbers.{add_long_code, divide_code}
use Rattle.c65_genload.specs.declared.places.Place.{Place}
use Rattle.c65_genload.specs.declared.places.Place.TheVariants.{Bank, Far}
use Rattle.c65_genload.specs.declared.places.Extent.{Extent}
use Rattle.c65_genload.specs.declared.places.Extent.TheVariants.{One, Two}
use Rattle.c65_genload.specs.declared.places.Access.{Access}
use Rattle.c65_genload.specs.declared.places.Access.TheVariants.{Whole, Part}
use Rattle.c65_genload.specs.Places.{extent_of}
use Rattle.c65_genload.specs.Fields.{is_in_byte, is_astride}
use Rattle.c65_genload.specs.Conversions.{size_of, push_code}
use Rattle.c65_gendirect.specs.declared.bytes.OperandByte.{OperandByte}
use Rattle.c65_gendirect.specs.declared.direct.Direct.{Direct}
use Rattle.c65_gendirect.specs.Bytes.{byte_of}
use Rattle.c65_gendirect.specs.Words.{word_code, add_number_code, taken_from_code, long_mask_code}
use Rattle.c65_gendirect.specs.Pointed.{pointer_code, pointed_sum_code}
use Rattle.c65_genshift.specs.Quick.{quick_of, quick_code, elements_code}
use Rattle.c65_genshift.specs.Shifts.{labelled}
use Rattle.c65_genexpr.specs.declared.destination.Destination.{Destination}
use Rattle.c65_genexpr.specs.declared.destination.Destination.TheVariants.{Registers, Pointer}
use Rattle.c65_genexpr.specs.declared.elements.Element.{Element}
use Rattle.c65_genexpr.specs.declared.operands.Operands.{Operands}
use Rattle.c65_genexpr.specs.declared.operands.Operands.TheVariants.{Numbers, PointerFirst, PointerLast, Pointers}
use Rattle.c65_genexpr.specs.declared.operating.Form.{Form}
use Rattle.c65_genexpr.specs.declared.operating.Form.TheVariants.{Sum, LongSum, Mask, Constant, Word, Under, Indexed, Distance, DistanceUnder}
use Rattle.c65_genexpr.specs.declared.operating.Operating.{Operating}
use Rattle.c65_genexpr.specs.declared.operating.Operating.TheVariants.{Left, Right, Held, Stacked}
use Rattle.c65_genexpr.specs.Destination.{arrived}
use Rattle.c65_genexpr.specs.Operands.{residue_of, negative, constant_in, operands_of, between_code, behind_code}
use Rattle.c65_genexpr.specs.Types.{kind_of, kind_in, bare, access_of}
use Rattle.c65_genexpr.specs.Places.{more, object_place, place_of}
use Rattle.c65_genexpr.specs.Direct.{direct_of, is_fixed, is_pure}
use Rattle.c65_genexpr.specs.Elements.{element_at, element_or, doublings}
use Rattle.c65_genexpr.specs.Held.{held_low, held_high, keep_code}

-- ---- a constant on the right

abbrev pub sum_by : Width → ℕ → Form
sum_by Ax n = Sum n
sum_by Eax n = LongSum n

abbrev pub mask_by : BinaryOp → Width → ℕ → Option Form
mask_by op Ax n = None
mask_by op Eax n = Some (Mask op n)

abbrev pub number_form : BinaryOp → IntType → ℕ → Option Form
number_form Add kind n = Some (sum_by (width_of kind) n)
number_form Sub kind n = Some (sum_by (width_of kind) (negative n))
number_form BitAnd kind n = mask_by BitAnd (width_of kind) n
number_form BitXor kind n = mask_by BitXor (width_of kind) n
number_form BitOr kind n = mask_by BitOr (width_of kind) n
number_form op kind n = option_map (Constant kind) (quick_of op kind n)

-- bytes that are added to a pointer
abbrev pub offset_form : BinaryOp → ℕ → Option Form
offset_form Add n = Some (Sum n)
offset_form Sub n = Some (Sum (negative n))
offset_form op n = None

abbrev pub constant_form : BinaryOp → Operands → ℕ → Option Form
constant_form op (Numbers kind) n = number_form op kind n
constant_form op (PointerFirst size) n = offset_form op (n * size % 4294967296)
constant_form op operands n = None

-- ---- an operand that is read where it lies, and the other one in AX

abbrev pub pair_of : Option OperandByte → Option OperandByte → Option (OperandByte × OperandByte)
pair_of (Some low) (Some high) = Some (low, high)
pair_of _ _ = None

-- the two bytes of a word
abbrev pub word_in : Direct → Option (OperandByte × OperandByte)
word_in d = pair_of (byte_of d 0) (byte_of d 1)

abbrev pub takes_bytes : BinaryOp → Bool
takes_bytes Add = true
takes_bytes Sub = true
takes_bytes BitAnd = true
takes_bytes BitXor = true
takes_bytes BitOr = true
takes_bytes _ = false

abbrev pub word_if : Bool → BinaryOp → Width → OperandByte → OperandByte → Option Form
word_if true op Ax low high = Some (Word op low high)
word_if taken op width low high = None

-- a number of elements of one byte behind a pointer
abbrev pub element_form : BinaryOp → ℕ → OperandByte → OperandByte → Option Form
element_form Add size low high = if size == 1 then Some (Word Add low high) else None
element_form Sub size low high = if size == 1 then Some (Word Sub low high) else None
element_form op size low high = None

-- the right operand is read: the left one is in AX
abbrev pub right_form : BinaryOp → Operands → OperandByte → OperandByte → Option Form
right_form op (Numbers kind) low high = word_if (takes_bytes op) op (width_of kind) low high
right_form op (PointerFirst size) low high = element_form op size low high
right_form Add (PointerLast size) low high = Some (Indexed size low high)
right_form Sub (Pointers size) low high = Some (Distance size low high)
right_form op operands low high = None

abbrev pub under_if : Width → OperandByte → OperandByte → Option Form
under_if Ax low high = Some (Under low high)
under_if Eax low high = None

-- the left operand is read: the right one is in AX
abbrev pub left_form : BinaryOp → Operands → OperandByte → OperandByte → Option Form
left_form Sub (Numbers kind) low high = under_if (width_of kind) low high
left_form op (Numbers kind) low high = word_if (takes_bytes op) op (width_of kind) low high
left_form Add (PointerFirst size) low high = Some (Indexed size low high)
left_form Sub (Pointers size) low high = Some (DistanceUnder size low high)
left_form op operands low high = None

abbrev pub constant_right : BinaryOp → Operands → Typed → Option Form
constant_right op operands b = option_and_then (λ z. constant_form op operands (residue_of z)) (constant_in b)

abbrev pub direct_right : BinaryOp → Operands → Option Direct → Option Form
direct_right op operands b = option_and_then (λ w. right_form op operands w.0 w.1) (option_and_then word_in b)

abbrev pub direct_left : BinaryOp → Operands → Option Direct → Option Form
direct_left op operands a = option_and_then (λ w. left_form op operands w.0 w.1) (option_and_then word_in a)

-- ---- the form, where an operand is read

-- the left operand is read behind the right one only where that leaves it as it is
abbrev pub by_left : Bool → Option Form → Operating
by_left true (Some form) = Right form
by_left stays form = Stacked

abbrev pub by_right : Option Form → Operating → Operating
by_right (Some form) other = Left form
by_right None other = other

-- how an operator is computed on two operands, if one of them is read where it lies
abbrev pub reading_of : Framed → ℕ → BinaryOp → Operands → Typed → Typed → Operating
reading_of f pushed op operands a b =
    by_right (constant_right op operands b)
    (by_right (direct_right op operands (direct_of f pushed b))
    (by_left (is_fixed (direct_of f pushed a) || is_pure b) (direct_left op operands (direct_of f pushed a))))

-- ---- light trees: their lines leave ptr2 as it is, and call no routine that may change it

abbrev pub is_signed_char : IntType → Bool
is_signed_char SChar = true
is_signed_char kind = false

abbrev pub is_light_form : Form → Bool
is_light_form (Constant kind quick) = false
is_light_form (Indexed size low high) = size == 1
is_light_form (Distance size low high) = size == 1
is_light_form (DistanceUnder size low high) = size == 1
is_light_form form = true

abbrev pub is_light_place : Place → Bool
is_light_place (Far at) = false
is_light_place place = true

abbrev pub is_light_access : Access → Bool
is_light_access (Whole kind) = not (is_signed_char kind)
is_light_access (Part g) = not (is_signed_of g.kind) && (is_in_byte g || is_astride g)

-- one byte or two: they are read behind an address by Y, and changed where they lie
abbrev pub is_light_extent : Extent → Bool
is_light_extent One = true
is_light_extent Two = true
is_light_extent extent = false

-- a load; of a place that is anywhere by whether the address is light
abbrev pub is_light_load : Place → Access → Bool → Bool
is_light_load (Far at) (Whole kind) base = is_light_extent (extent_of kind) && (not (is_signed_char kind) && base)
is_light_load (Far at) (Part g) base = is_light_access (Part g) && base
is_light_load place access base = is_light_access access

-- what is changed lies outside ptr2: regbank has six bytes
abbrev pub is_light_target : Place → Bool → Bool
is_light_target (Far at) base = base
is_light_target (Bank at) base = nat_lt at 6
is_light_target place base = true

abbrev pub is_light_step : Place → Access → Bool → Bool
is_light_step place (Whole kind) base = is_light_extent (extent_of kind) && (not (is_signed_char kind) && is_light_target place base)
is_light_step place (Part field) base = false

abbrev pub is_light_to : Width → IntType → IntType → Bool
is_light_to Ax from to = not (is_signed_char to)
is_light_to Eax from to = nat_le 4 (size_of from)

abbrev pub is_light_conversion : Ty → IntType → Bool
is_light_conversion void from = true
is_light_conversion to from = is_light_to (width_of (kind_of to)) from (kind_of to)

-- an operator, by whether its operands are light
abbrev pub is_light_operator : Operating → Bool → Bool → Bool
is_light_operator (Left form) a b = is_light_form form && a
is_light_operator (Right form) a b = is_light_form form && b
is_light_operator how a b = false

-- an element, by its index: no routine makes bytes of the index, or a value of the byte
abbrev pub is_light_element : Element × IntType → Bool
is_light_element x = is_some (doublings x.0.size) && not (is_signed_char x.1)

abbrev mutual
  pub is_light : Framed → ℕ → Typed → Bool
  is_light f pushed (node t (constant z)) = true
  is_light f pushed (node t null) = true
  is_light f pushed (node t (literal n)) = true
  is_light f pushed (node t (func i)) = true
  is_light f pushed (node t (object i)) = is_light_place (object_place f pushed i)
  is_light f pushed (node t (deref e)) = is_light f pushed e
  is_light f pushed (node t (member e m)) = is_light f pushed e
  is_light f pushed (node t (address e)) = is_light f pushed e
  is_light f pushed (node t (decay e)) = is_light f pushed e
  is_light f pushed (node t (load e)) =
      element_or (element_at f e)
      (λ x. is_light_element x && is_light_index f pushed e)
      (is_light_load (place_of f pushed e) (access_of (types_of f.parts.types) e) (is_light f pushed e))
  is_light f pushed (node t (step how e)) = is_light_step (place_of f pushed e) (access_of (types_of f.parts.types) e) (is_light f pushed e)
  is_light f pushed (node t (convert e)) = is_light_conversion (type_in t) (kind_in e) && is_light f pushed e
  is_light f pushed (node t (binary op a b)) =
      takes_bytes op && is_light_operator (reading_of f pushed op (operands_of f (bare a) (bare b)) a b) (is_light f pushed a) (is_light f pushed b)
  is_light f pushed (node t _) = false

  -- the index of an element of a small array
  pub is_light_index : Framed → ℕ → Typed → Bool
  is_light_index f pushed (node t (deref e)) = is_light_sum f pushed e
  is_light_index f pushed (node t (member e m)) = is_light_index f pushed e
  is_light_index f pushed (node t _) = false

  pub is_light_sum : Framed → ℕ → Typed → Bool
  is_light_sum f pushed (node t (binary op a b)) = is_light f pushed b
  is_light_sum f pushed (node t _) = false

-- ---- a left operand that waits in ptr2 while the right one comes, which is light

-- a number of elements of one byte
abbrev pub held_elements : BinaryOp → Option Form
held_elements Add = Some (Word Add held_low held_high)
held_elements Sub = Some (Under held_low held_high)
held_elements op = None

-- the right operand is in AX; elements of more bytes than one would take routines
abbrev pub held_form : BinaryOp → Operands → Option Form
held_form op (Numbers kind) = left_form op (Numbers kind) held_low held_high
held_form op (PointerFirst size) = if size == 1 then held_elements op else None
held_form Sub (Pointers size) = Some (DistanceUnder size held_low held_high)
held_form op operands = None

abbrev pub held_if : Bool → Option Form → Operating
held_if true (Some form) = Held form
held_if is_light form = Stacked

-- ---- the form

abbrev pub or_held : Operating → Operating → Operating
or_held Stacked held = held
or_held how held = how

-- how an operator is computed on two operands
abbrev pub operating_of : Framed → ℕ → BinaryOp → Operands → Typed → Typed → Operating
operating_of f pushed op operands a b = or_held (reading_of f pushed op operands a b) (held_if (is_light f pushed b) (held_form op operands))

-- ---- lines

-- of these operators word_code places the label
abbrev pub placed : BinaryOp → ℕ → List Line
placed Add label = []
placed Sub label = []
placed op label = Label label ∷ []

-- behind the operand that is in the primary register; the label is the operator's own, and is placed once
abbrev pub value_form : Form → ℕ → List Line
value_form (Sum n) label = add_number_code n label
value_form (LongSum n) label = labelled label (add_long_code n)
value_form (Mask op n) label = labelled label (long_mask_code op n)
value_form (Constant kind quick) label = quick_code kind quick label
value_form (Word op low high) label = word_code op low high label ++ placed op label
value_form (Under low high) label = labelled label (taken_from_code low high)
value_form (Indexed size low high) label = elements_code size ++ word_code Add low high label
value_form (Distance size low high) label = word_code Sub low high label ++ divide_code size
value_form (DistanceUnder size low high) label = labelled label (taken_from_code low high ++ divide_code size)

abbrev pub pointed_word : BinaryOp → OperandByte → OperandByte → ℕ → List Line
pointed_word Add low high label = labelled label (pointed_sum_code low high)
pointed_word op low high label = word_code op low high label ++ (placed op label ++ pointer_code)

-- the same where ptr1 is to have the result
abbrev pub pointed_form : Form → ℕ → List Line
pointed_form (Word op low high) label = pointed_word op low high label
pointed_form (Indexed size low high) label = elements_code size ++ pointed_word Add low high label
pointed_form form label = value_form form label ++ pointer_code

abbrev pub form_code : Destination → Form → ℕ → List Line
form_code Registers form label = value_form form label
form_code Pointer form label = pointed_form form label

-- behind a left operand that waits: elements become bytes
abbrev pub waiting_code : Operands → List Line
waiting_code (PointerLast size) = elements_code size ++ push_code Ax
waiting_code operands = between_code operands

-- behind the right operand then
abbrev pub stacked_code : BinaryOp → Operands → IntType → List Line
stacked_code op (PointerFirst size) right = elements_code size ++ wide_code op UInt
stacked_code op operands right = behind_code op operands right

-- the bytes that wait while the right operand is computed: the left one has so many
abbrev pub below_operand : Operating → ℕ → ℕ → ℕ
below_operand Stacked pushed bytes = more pushed bytes
below_operand _ pushed bytes = pushed

-- an operator, from the lines of its two operands
abbrev pub operator_by : Destination → Operating → BinaryOp → Operands → IntType → ℕ → List Line → List Line → List Line
operator_by d (Left form) op operands right label a b = a ++ form_code d form label
operator_by d (Right form) op operands right label a b = b ++ form_code d form label
operator_by d (Held form) op operands right label a b = a ++ (keep_code ++ (b ++ form_code d form label))
operator_by d Stacked op operands right label a b = a ++ (waiting_code operands ++ (b ++ (stacked_code op operands right ++ (Label label ∷ arrived d))))
