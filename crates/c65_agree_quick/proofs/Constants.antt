-- What a shift by a constant gives, and which lines it has.
use Rattle.std.proofs.Common.{◌≡◌, ℕ, ◌<◌, ◌≤◌, ℤ, pos, negsuc, Bool, true, false, Some, None, refl, sym, ap, ◌∙◌, arith}
use Rattle.std.specs.Prelude.{nat_lt, if◌then◌else◌, option_map, Ok}
use Rattle.std.proofs.lemmas.Bool.{ltb-true}
use Rattle.std.proofs.lemmas.Bool.Decides.{nat_tests}
use Rattle.c65_base.specs.declared.operators.BinaryOp.{BinaryOp}
use Rattle.c65_base.specs.declared.operators.BinaryOp.TheVariants as ops
use Rattle.c65_ints.specs.declared.types.IntType.{IntType}
use Rattle.c65_ints.specs.Ranges.{is_signed_of, residue, InRange}
use Rattle.c65_csem.specs.Places.{is_promoted}
use Rattle.c65_meaning.specs.Store.{Whole}
use Rattle.c65_meaning.specs.Operators.{calculated}
use Rattle.c65_code.specs.declared.routine.TosOp.{TosOp}
use Rattle.c65_code.specs.declared.routine.TosOp.TheVariants as tos
use Rattle.c65_code.specs.declared.routine.Width.{Width}
use Rattle.c65_code.specs.declared.routine.Width.TheVariants.{Ax, Eax}
use Rattle.c65_code.specs.Numbers.{bits_of, words_of, counted, tos_result}
use Rattle.c65_genwide.specs.Wide.{width_of, tos_of}
use Rattle.c65_genshift.specs.declared.quick.Quick.TheVariants.{Shift}
use Rattle.c65_genshift.specs.Shifts.{is_short}
use Rattle.c65_genshift.specs.Quick.{shift_if, quick_by}
use Rattle.c65_genexpr.specs.declared.operating.Form.{Form}
use Rattle.c65_genexpr.specs.declared.operating.Form.TheVariants.{Constant}
use Rattle.c65_genexpr.specs.Operands.{residue_of}
use Rattle.c65_genexpr.specs.Operating.{number_form}
use Rattle.c65_agree_numbers.specs.Words.{word_of, is_shift}
use Rattle.c65_agree_numbers.proofs.Ranges.{Within, within}
use Rattle.c65_agree_numbers.proofs.Shifts.{shifts_are_on_words}
use Rattle.c65_agree_operate.proofs.Given.{narrowed_same}
use Rattle.c65_agree_quick.proofs.Powers.{moved}
use Rattle.c65_agree_quick.proofs.Shifted.{short_below}

-- ---- counts

-- fewer bits than the register has, and at most 31
pub count_below : (op : TosOp) (width : Width) (n : ℕ) → is_short op width n ≡ true → n < bits_of width
count_below tos.Shl Ax n h = ltb-true n 16 h
count_below tos.Shl Eax n h = short_below n h
count_below tos.Shr Ax n h = ltb-true n 16 h
count_below tos.Shr Eax n h = short_below n h
count_below tos.Asr Ax n h = let few : n < 4 = ltb-true n 4 h in omega (arith, few)
count_below tos.Asr Eax n h = let few : n < 4 = ltb-true n 4 h in omega (arith, few)
count_below _ width n h = absurd (cc)

most_bits : (width : Width) → bits_of width ≤ 32
most_bits Ax = omega arith
most_bits Eax = omega arith

-- a count is its own word, whatever its type
count_word : (r : IntType) (z : ℤ) → InRange r z → residue_of z < 32 → word_of r z ≡ residue_of z
count_word r z range few = by (is_signed_of r) (width_of r) z (within r z range) few
  where
    by : (sign : Bool) (width : Width) (z : ℤ) → Within sign width z → residue_of z < 32 → residue (words_of width) z ≡ residue_of z
    by true Ax (pos n) h few = omega (arith, h, few)
    by true Eax (pos n) h few = omega (arith, h, few)
    by false Ax (pos n) h few = omega (arith, h, few)
    by false Eax (pos n) h few = omega (arith, h, few)
    by true Ax (negsuc n) h few = absurd (omega (arith, h, few))
    by true Eax (negsuc n) h few = absurd (omega (arith, h, few))
    by false width (negsuc n) h few = absurd h

-- ---- values

abbrev pub IsShiftOf : TosOp → Type 0
IsShiftOf tos.Shl = Unit {0}
IsShiftOf tos.Shr = Unit {0}
IsShiftOf tos.Asr = Unit {0}
IsShiftOf _ = ⊥

counted_some : (width : Width) (n v : ℕ) → n < bits_of width → counted width n v ≡ Some v
counted_some width n v h = let e : nat_lt n (bits_of width) ≡ true = grind (arith, nat_tests) in ap (λ b. if b then Some v else None) e

pub shift_result : (op : TosOp) (width : Width) (m n : ℕ) → IsShiftOf op → n < bits_of width → tos_result op width m n ≡ Some (moved op width m n)
shift_result tos.Shl width m n o h = counted_some width n _ h
shift_result tos.Shr width m n o h = counted_some width n _ h
shift_result tos.Asr width m n o h = counted_some width n _ h
shift_result _ width m n o h = absurd o

pub of_shift : (op : BinaryOp) (sign : Bool) → is_shift op ≡ true → IsShiftOf (tos_of op sign)
of_shift ops.Shl sign h = tt
of_shift ops.Shr true h = tt
of_shift ops.Shr false h = tt
of_shift _ sign h = absurd (cc)

own_result : (op : BinaryOp) (t r : IntType) (p z y : ℤ) → is_shift op ≡ true → is_promoted t ≡ true → InRange t p → calculated op t p z ≡ Ok (Whole y) → tos_result (tos_of op (is_signed_of t)) (width_of t) (word_of t p) (word_of r z) ≡ Some (word_of t y)
own_result ops.Shl t r p z y shift promoted range is = let h = shifts_are_on_words ops.Shl t r p z y shift range is in h.given ∙ ap Some (sym (narrowed_same t h.word promoted) ∙ h.is)
own_result ops.Shr t r p z y shift promoted range is = let h = shifts_are_on_words ops.Shr t r p z y shift range is in h.given ∙ ap Some (sym (narrowed_same t h.word promoted) ∙ h.is)
own_result _ t r p z y shift promoted range is = absurd (cc)

pub some_same : (m n : ℕ) → Some m ≡ Some n → m ≡ n
some_same m n e = cc

-- the word that the lines make is that of the value
pub shift_given : (op : BinaryOp) (t r : IntType) (p z y : ℤ) → is_shift op ≡ true → is_promoted t ≡ true → InRange t p → InRange r z → is_short (tos_of op (is_signed_of t)) (width_of t) (residue_of z) ≡ true
    → calculated op t p z ≡ Ok (Whole y) → moved (tos_of op (is_signed_of t)) (width_of t) (word_of t p) (residue_of z) ≡ word_of t y
shift_given op t r p z y shift promoted range range2 short is =
    let o : TosOp = tos_of op (is_signed_of t) in
    let below : residue_of z < bits_of (width_of t) = count_below o (width_of t) (residue_of z) short in
    let count : word_of r z ≡ residue_of z = count_word r z range2 (omega (arith, below, most_bits (width_of t))) in
    some_same (moved o (width_of t) (word_of t p) (residue_of z)) (word_of t y)
    (sym (shift_result o (width_of t) (word_of t p) (residue_of z) (of_shift op (is_signed_of t) shift) below)
    ∙ ap (tos_result o (width_of t) (word_of t p)) (sym count) ∙ own_result op t r p z y shift promoted range is)

-- ---- forms

-- a shift of few lines
pub record IsShortShift (t : IntType) (op : TosOp) (n : ℕ) (form : Form) : Type 0 where
  pub is : form ≡ Constant t (Shift op n)
  pub short : is_short op (width_of t) n ≡ true

pub short_form : (t : IntType) (op : TosOp) (n : ℕ) (form : Form) → option_map (Constant t) (shift_if op (width_of t) n) ≡ Some form → IsShortShift t op n form
short_form t op n form e = by (is_short op (width_of t) n) refl e
  where
    by : (b : Bool) → is_short op (width_of t) n ≡ b → option_map (Constant t) (if b then Some (Shift op n) else None) ≡ Some form → IsShortShift t op n form
    by true short e = record { is = cc; short = short }
    by false short e = absurd (cc)

pub shift_form : (op : BinaryOp) (t : IntType) (n : ℕ) (form : Form) → is_shift op ≡ true → number_form op t n ≡ Some form → IsShortShift t (tos_of op (is_signed_of t)) n form
shift_form ops.Shl t n form shift e = short_form t tos.Shl n form e
shift_form ops.Shr t n form shift e = by (is_signed_of t) refl
  where
    by : (sign : Bool) → is_signed_of t ≡ sign → IsShortShift t (tos_of ops.Shr sign) n form
    by true s = short_form t tos.Asr n form (ap (λ b. option_map (Constant t) (quick_by (tos_of ops.Shr b) (width_of t) n)) (sym s) ∙ e)
    by false s = short_form t tos.Shr n form (ap (λ b. option_map (Constant t) (quick_by (tos_of ops.Shr b) (width_of t) n)) (sym s) ∙ e)
shift_form _ t n form shift e = absurd (cc)
