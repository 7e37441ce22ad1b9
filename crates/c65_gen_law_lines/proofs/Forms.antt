-- Forms of operators, behind the operand that is in the primary register.
use Rattle.std.proofs.Common.{◌≡◌, ℕ, ◌+◌, ◌≤◌, Bool, true, List, ◌∷◌, ◌++◌, refl, arith}
use Rattle.c65_base.specs.declared.operators.BinaryOp.{BinaryOp}
use Rattle.c65_base.specs.declared.operators.BinaryOp.TheVariants as ops
use Rattle.c65_ints.specs.declared.types.IntType.{IntType}
use Rattle.c65_ints.specs.declared.types.IntType.TheVariants.{UInt}
use Rattle.c65_code.specs.declared.line.Line.{Line}
use Rattle.c65_code.specs.declared.routine.Width.TheVariants.{Ax}
use Rattle.c65_genwide.specs.Wide.{width_of}
use Rattle.c65_genload.specs.Numbers.{add_long_code}
use Rattle.c65_genload.specs.Conversions.{waiting}
use Rattle.c65_gendirect.specs.declared.bytes.OperandByte.{OperandByte}
use Rattle.c65_gendirect.specs.Words.{word_code}
use Rattle.c65_gendirect.specs.Pointed.{pointer_code}
use Rattle.c65_genshift.specs.Quick.{elements_code}
use Rattle.c65_genexpr.specs.declared.destination.Destination.{Destination}
use Rattle.c65_genexpr.specs.declared.destination.Destination.TheVariants.{Registers, Pointer}
use Rattle.c65_genexpr.specs.declared.operands.Operands.{Operands}
use Rattle.c65_genexpr.specs.declared.operands.Operands.TheVariants.{Numbers, PointerFirst, PointerLast, Pointers}
use Rattle.c65_genexpr.specs.declared.operating.Form.{Form}
use Rattle.c65_genexpr.specs.declared.operating.Form.TheVariants.{Sum, LongSum, Mask, Constant, Word, Under, Indexed, Distance, DistanceUnder}
use Rattle.c65_genexpr.specs.Held.{keep_code, keep_byte_code}
use Rattle.c65_genexpr.specs.Operands.{computes}
use Rattle.c65_genexpr.specs.Operating.{placed, value_form, pointed_word, pointed_form, form_code, waiting_code, stacked_code}
use Rattle.c65_gen_law_lines.proofs.Made.{nowhere, once_at, stretch_piece, Stretch, stretch_then, stretch_as}
use Rattle.c65_gen_law_lines.proofs.Pieces.{keep_piece, divide_piece, push_piece, wide_piece, between_piece, behind_piece}
use Rattle.c65_gen_law_lines.proofs.StackPieces.{keep_still, Leaves, leaves_then, Still, divide_still, push_leaves, wide_leaves, between_leaves, behind_leaves}
use Rattle.c65_gen_law_lines.proofs.Quiet.{Quiet, quiet_then, quiet_piece, quiet_label, quiet_none, quiet_wider, quiet_as}
use Rattle.c65_gen_law_lines.proofs.Directs.{word_label, word_quiet, pointer_quiet, pointed_sum_quiet, added_quiet, taken_quiet, long_mask_quiet}
use Rattle.c65_gen_law_lines.proofs.Shifts.{labelled_quiet, quick_quiet, elements_quiet}
use Rattle.c65_gen_law_lines.proofs.Drops.{IsSmall}

-- the label that word_code does not place
abbrev other_label : BinaryOp → ℕ → ℕ → ℕ
other_label ops.Add fresh l = 0
other_label ops.Sub fresh l = 0
other_label _ fresh l = once_at fresh l

placed_quiet : {ok : ℕ → Bool} (op : BinaryOp) (fresh : ℕ) → Quiet ok (other_label op fresh) 0 (placed op fresh)
placed_quiet ops.Add fresh = quiet_none
placed_quiet ops.Sub fresh = quiet_none
placed_quiet _ fresh = quiet_label fresh

one_of_both : (op : BinaryOp) (fresh l : ℕ) → word_label op fresh l + other_label op fresh l ≡ once_at fresh l
one_of_both ops.Add fresh l = omega arith
one_of_both ops.Sub fresh l = omega arith
one_of_both _ fresh l = omega arith

placed_word_quiet : {ok : ℕ → Bool} (op : BinaryOp) (low high : OperandByte) (fresh : ℕ) → ok fresh ≡ true → Quiet ok (once_at fresh) 13 (word_code op low high fresh ++ placed op fresh)
placed_word_quiet op low high fresh passes = quiet_wider (quiet_as (one_of_both op fresh) (quiet_then (word_quiet op low high fresh passes) (placed_quiet op fresh))) (omega arith)

pub value_quiet : {ok : ℕ → Bool} (form : Form) (label : ℕ) → ok label ≡ true → IsSmall form → Quiet ok (once_at label) 104 (value_form form label)
value_quiet (Sum n) label passes small = quiet_wider (added_quiet n label passes) (omega arith)
value_quiet {ok = ok} (LongSum n) label passes small =
    let sum : Quiet ok nowhere 21 (add_long_code n) = quiet_piece (record { plain = refl; fit = refl; size = omega arith }) (λ v. record { to = λ calls. refl }) in
    labelled_quiet label (quiet_wider sum (omega arith))
value_quiet (Mask op n) label passes small = labelled_quiet label (quiet_wider (long_mask_quiet op n) (omega arith))
value_quiet (Constant kind quick) label passes small = quiet_wider (quick_quiet kind quick label passes small) (omega arith)
value_quiet (Word op low high) label passes small = quiet_wider (placed_word_quiet op low high label passes) (omega arith)
value_quiet (Under low high) label passes small = labelled_quiet label (quiet_wider (taken_quiet low high) (omega arith))
value_quiet (Indexed size low high) label passes small = quiet_as (λ l. omega arith) (quiet_then (elements_quiet size) (word_quiet ops.Add low high label passes))
value_quiet (Distance size low high) label passes small = quiet_wider (quiet_as (λ l. omega arith) (quiet_then (word_quiet ops.Sub low high label passes) (quiet_piece (divide_piece size) (divide_still size)))) (omega arith)
value_quiet (DistanceUnder size low high) label passes small = labelled_quiet label (quiet_wider (quiet_as (λ l. refl) (quiet_then (taken_quiet low high) (quiet_piece (divide_piece size) (divide_still size)))) (omega arith))

-- the address goes on to ptr1
then_pointer : {ok : ℕ → Bool} {lines : List Line} (label : ℕ) → Quiet ok (once_at label) 104 lines → Quiet ok (once_at label) 108 (lines ++ pointer_code)
then_pointer label p = quiet_as (λ l. omega arith) (quiet_then p pointer_quiet)

other_word_quiet : {ok : ℕ → Bool} (op : BinaryOp) (low high : OperandByte) (fresh : ℕ) → ok fresh ≡ true → Quiet ok (once_at fresh) 108 (word_code op low high fresh ++ (placed op fresh ++ pointer_code))
other_word_quiet op low high fresh passes =
    quiet_wider (quiet_as (λ l. omega (arith, one_of_both op fresh l)) (quiet_then (word_quiet op low high fresh passes) (quiet_then (placed_quiet op fresh) pointer_quiet))) (omega arith)

pointed_word_quiet : {ok : ℕ → Bool} (op : BinaryOp) (low high : OperandByte) (label : ℕ) → ok label ≡ true → Quiet ok (once_at label) 108 (pointed_word op low high label)
pointed_word_quiet ops.Add low high label passes = labelled_quiet label (quiet_wider (pointed_sum_quiet low high) (omega arith))
pointed_word_quiet op low high label passes = other_word_quiet op low high label passes

pointed_quiet : {ok : ℕ → Bool} (form : Form) (label : ℕ) → ok label ≡ true → IsSmall form → Quiet ok (once_at label) 108 (pointed_form form label)
pointed_quiet (Word op low high) label passes small = pointed_word_quiet op low high label passes
pointed_quiet (Indexed size low high) label passes small = quiet_wider (quiet_as (λ l. omega arith) (quiet_then (elements_quiet size) (labelled_quiet label (pointed_sum_quiet low high)))) (omega arith)
pointed_quiet form label passes small = then_pointer label (value_quiet form label passes small)

pub form_quiet : {ok : ℕ → Bool} (d : Destination) (form : Form) (label : ℕ) → ok label ≡ true → IsSmall form → Quiet ok (once_at label) 108 (form_code d form label)
form_quiet Registers form label passes small = quiet_wider (value_quiet form label passes small) (omega arith)
form_quiet Pointer form label passes small = pointed_quiet form label passes small

-- ---- a left operand that waits

pub keep_quiet : {ok : ℕ → Bool} → Quiet ok nowhere 4 keep_code
keep_quiet = quiet_piece keep_piece keep_still

pub keep_byte_quiet : {ok : ℕ → Bool} → Quiet ok nowhere 2 keep_byte_code
keep_byte_quiet = quiet_piece (record { plain = refl; fit = refl; size = omega arith }) (λ v. record { to = λ calls. refl })

abbrev pub before_size : Operands → ℕ
before_size (PointerLast size) = 94
before_size _ = 16

abbrev pub behind_size : Operands → ℕ
behind_size (PointerFirst size) = 97
behind_size _ = 19

pub stacked_sizes : (operands : Operands) → before_size operands + behind_size operands ≤ 113
stacked_sizes (Numbers kind) = omega arith
stacked_sizes (PointerFirst size) = omega arith
stacked_sizes (PointerLast size) = omega arith
stacked_sizes (Pointers size) = omega arith

pub waiting_part : {ok : ℕ → Bool} (operands : Operands) → Stretch ok nowhere (before_size operands) (waiting_code operands)
waiting_part (Numbers kind) = stretch_piece (between_piece (Numbers kind))
waiting_part (PointerFirst size) = stretch_piece (between_piece (PointerFirst size))
waiting_part (PointerLast size) = stretch_as (λ l. refl) (stretch_then (elements_quiet size).part (stretch_piece (push_piece Ax)))
waiting_part (Pointers size) = stretch_piece (between_piece (Pointers size))

pub stacked_part : {ok : ℕ → Bool} (op : BinaryOp) (operands : Operands) (right : IntType) → Stretch ok nowhere (behind_size operands) (stacked_code op operands right)
stacked_part op (Numbers kind) right = stretch_piece (behind_piece op (Numbers kind) right)
stacked_part op (PointerFirst size) right = stretch_as (λ l. refl) (stretch_then (elements_quiet size).part (stretch_piece (wide_piece op UInt)))
stacked_part op (PointerLast size) right = stretch_piece (behind_piece op (PointerLast size) right)
stacked_part op (Pointers size) right = stretch_piece (behind_piece op (Pointers size) right)

-- whatever their labels pass
still_elements : (size : ℕ) → Still (elements_code size)
still_elements size = let quiet : Quiet (λ l. true) nowhere 91 (elements_code size) = elements_quiet size in quiet.still

pub waiting_leaves : (operands : Operands) (v : List ℕ) → Leaves v (waiting_code operands) (waiting (width_of (computes operands)) ∷ v)
waiting_leaves (Numbers kind) v = between_leaves (Numbers kind) v
waiting_leaves (PointerFirst size) v = between_leaves (PointerFirst size) v
waiting_leaves (PointerLast size) v = leaves_then (still_elements size v) (push_leaves Ax v)
waiting_leaves (Pointers size) v = between_leaves (Pointers size) v

pub stacked_leaves : (op : BinaryOp) (operands : Operands) (right : IntType) (v : List ℕ) → Leaves (waiting (width_of (computes operands)) ∷ v) (stacked_code op operands right) v
stacked_leaves op (Numbers kind) right v = behind_leaves op (Numbers kind) right v
stacked_leaves op (PointerFirst size) right v = leaves_then (still_elements size (2 ∷ v)) (wide_leaves op UInt v)
stacked_leaves op (PointerLast size) right v = behind_leaves op (PointerLast size) right v
stacked_leaves op (Pointers size) right v = behind_leaves op (Pointers size) right v
