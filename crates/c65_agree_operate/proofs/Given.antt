-- What an operator gives on two numbers, and its word.
use Rattle.std.proofs.Common.{◌≡◌, ℕ, ◌<◌, ◌≤◌, [], ℤ, Bool, true, false, Option, Some, None, refl, sym, ap, ◌∙◌, subst, arith}
use Rattle.std.specs.Prelude.{nat_lt, if◌then◌else◌, Ok}
use Rattle.std.proofs.lemmas.Bool.Decides.{nat_tests}
use Rattle.c65_base.specs.declared.operators.BinaryOp.{BinaryOp}
use Rattle.c65_base.specs.declared.operators.BinaryOp.TheVariants as ops
use Rattle.c65_ints.specs.declared.types.IntType.{IntType}
use Rattle.c65_ints.specs.declared.types.IntType.TheVariants as I
use Rattle.c65_ints.specs.Ranges.{is_signed_of, InRange}
use Rattle.c65_ints.specs.Results.{quotient_of, remainder_of, shifted_left_of, shifted_right_of}
use Rattle.c65_csem.specs.Places.{is_promoted}
use Rattle.c65_meaning.specs.declared.action.Action.{Action}
use Rattle.c65_meaning.specs.Store as values
use Rattle.c65_meaning.specs.Store.{Store, Value, Whole, Null, Opaque, Cells, NoValue, Number}
use Rattle.c65_meaning.specs.Fits.{Fits, compares, calculated_shape}
use Rattle.c65_meaning.specs.Operators.{number, number_or, calculated, binary}
use Rattle.c65_meaning.proofs.Fitting.{operators_fit}
use Rattle.c65_code.specs.declared.routine.Width.{Width}
use Rattle.c65_code.specs.declared.routine.Width.TheVariants.{Ax, Eax}
use Rattle.c65_code.specs.Numbers.{bits_of, words_of, counted, tos_result, result_width}
use Rattle.c65_genwide.specs.Wide.{width_of, tos_of, is_comparison, narrow_code}
use Rattle.c65_agree_numbers.specs.Words.{word_of, narrowed, widened, converted_word, result_type, result_word, is_shift}
use Rattle.c65_agree_numbers.specs.Laws.{GivesWord}
use Rattle.c65_agree_numbers.proofs.Residues.{word_below}
use Rattle.c65_agree_numbers.proofs.Operators.{operators_are_on_words}
use Rattle.c65_agree_numbers.proofs.Shifts.{shifts_are_on_words}
use Rattle.c65_agree_operate.specs.Laws.{AreOperands}

-- ---- the value

pub record IsCalculated (op : BinaryOp) (t : IntType) (v w x : Value) : Type 0 where
  pub a : ℤ
  pub b : ℤ
  pub z : ℤ
  pub left : v ≡ Whole a
  pub right : w ≡ Whole b
  pub result : x ≡ Whole z
  pub is : calculated op t a b ≡ Ok (Whole z)

of_number : (y : ℤ) (x : Value) → number y ≡ Ok x → x ≡ Whole y
of_number y x e = cc

of_option : (o : Option ℤ) (action : Action) (x : Value) → number_or action o ≡ Ok x → (y : ℤ) × (x ≡ Whole y)
of_option None action x e = absurd (cc)
of_option (Some y) action x e = (y, of_number y x e)

number_given : (op : BinaryOp) (t : IntType) (a b : ℤ) (x : Value) → calculated op t a b ≡ Ok x → (y : ℤ) × (x ≡ Whole y)
number_given ops.Mul t a b x e = (_, of_number _ x e)
number_given ops.Div t a b x e = of_option (quotient_of t a b) _ x e
number_given ops.Rem t a b x e = of_option (remainder_of a b) _ x e
number_given ops.Add t a b x e = (_, of_number _ x e)
number_given ops.Sub t a b x e = (_, of_number _ x e)
number_given ops.Shl t a b x e = of_option (shifted_left_of t a b) _ x e
number_given ops.Shr t a b x e = of_option (shifted_right_of t a b) _ x e
number_given ops.Lt t a b x e = (_, of_number _ x e)
number_given ops.Gt t a b x e = (_, of_number _ x e)
number_given ops.Le t a b x e = (_, of_number _ x e)
number_given ops.Ge t a b x e = (_, of_number _ x e)
number_given ops.Eq t a b x e = (_, of_number _ x e)
number_given ops.Ne t a b x e = (_, of_number _ x e)
number_given ops.BitAnd t a b x e = (_, of_number _ x e)
number_given ops.BitXor t a b x e = (_, of_number _ x e)
number_given ops.BitOr t a b x e = (_, of_number _ x e)

-- an operator on numbers has a value on two numbers alone
pub is_calculated : (s : Store) (op : BinaryOp) (t r : IntType) (v w x : Value) → binary s op (Number t) (Number r) v w ≡ Ok x → IsCalculated op t v w x
is_calculated s op t r (Whole a) (Whole b) x e =
    let h = number_given op t a b x e in
    record { a = a; b = b; z = h.0; left = refl; right = refl; result = h.1; is = e ∙ ap Ok h.1 }
is_calculated s op t r (Whole a) Null x e = absurd (cc)
is_calculated s op t r (Whole a) (values.Place b o) x e = absurd (cc)
is_calculated s op t r (Whole a) Opaque x e = absurd (cc)
is_calculated s op t r (Whole a) (Cells xs) x e = absurd (cc)
is_calculated s op t r (Whole a) NoValue x e = absurd (cc)
is_calculated s op t r Null w x e = absurd (cc)
is_calculated s op t r (values.Place b o) w x e = absurd (cc)
is_calculated s op t r Opaque w x e = absurd (cc)
is_calculated s op t r (Cells xs) w x e = absurd (cc)
is_calculated s op t r NoValue w x e = absurd (cc)

-- ---- promoted types

-- nothing is brought into the range
pub narrowed_same : (t : IntType) (n : ℕ) → is_promoted t ≡ true → narrowed t n ≡ n
narrowed_same I.SChar n p = cc
narrowed_same I.UChar n p = cc
narrowed_same I.Short n p = refl
narrowed_same I.UShort n p = refl
narrowed_same I.Int n p = refl
narrowed_same I.UInt n p = refl
narrowed_same I.Long n p = refl
narrowed_same I.ULong n p = refl

pub none_narrow : (t : IntType) → is_promoted t ≡ true → narrow_code t ≡ []
none_narrow I.SChar p = cc
none_narrow I.UChar p = cc
none_narrow I.Short p = refl
none_narrow I.UShort p = refl
none_narrow I.Int p = refl
none_narrow I.UInt p = refl
none_narrow I.Long p = refl
none_narrow I.ULong p = refl

same_type : (t : IntType) (n : ℕ) → is_promoted t ≡ true → n < words_of (width_of t) → converted_word t t n ≡ n
same_type I.SChar n p h = cc
same_type I.UChar n p h = cc
same_type I.Short n p h = omega arith
same_type I.UShort n p h = omega arith
same_type I.Int n p h = omega arith
same_type I.UInt n p h = omega arith
same_type I.Long n p h = refl
same_type I.ULong n p h = refl

-- a small number is the same in each type
small_long : (r : IntType) (n : ℕ) → n < 32 → widened (width_of r) (is_signed_of r) n ≡ n
small_long I.SChar n h = grind (arith, nat_tests)
small_long I.UChar n h = refl
small_long I.Short n h = grind (arith, nat_tests)
small_long I.UShort n h = refl
small_long I.Int n h = grind (arith, nat_tests)
small_long I.UInt n h = refl
small_long I.Long n h = refl
small_long I.ULong n h = refl

small_type : (r t : IntType) (n : ℕ) → is_promoted t ≡ true → n < 32 → converted_word r t n ≡ n
small_type r I.SChar n p h = cc
small_type r I.UChar n p h = cc
small_type r I.Short n p h = omega arith
small_type r I.UShort n p h = omega arith
small_type r I.Int n p h = omega arith
small_type r I.UInt n p h = omega arith
small_type r I.Long n p h = small_long r n h
small_type r I.ULong n p h = small_long r n h

-- ---- the word

few_bits : (width : Width) → bits_of width ≤ 32
few_bits Ax = omega arith
few_bits Eax = omega arith

counts : (width : Width) (n v w : ℕ) → counted width n v ≡ Some w → n < 32
counts width n v w e = go (nat_lt n (bits_of width)) refl e
  where
    go : (b : Bool) → nat_lt n (bits_of width) ≡ b → (if b then Some v else None) ≡ Some w → n < 32
    go true h e = let below : n < bits_of width = grind (arith, nat_tests) in omega (arith, below, few_bits width)
    go false h e = absurd (cc)

-- the count of a shift that has a result
small_count : (op : BinaryOp) (sign : Bool) (width : Width) (m n w : ℕ) → is_shift op ≡ true → tos_result (tos_of op sign) width m n ≡ Some w → n < 32
small_count ops.Shl sign width m n w s e = counts width n _ w e
small_count ops.Shr true width m n w s e = counts width n _ w e
small_count ops.Shr false width m n w s e = counts width n _ w e
small_count ops.Mul sign width m n w s e = absurd (cc)
small_count ops.Div sign width m n w s e = absurd (cc)
small_count ops.Rem sign width m n w s e = absurd (cc)
small_count ops.Add sign width m n w s e = absurd (cc)
small_count ops.Sub sign width m n w s e = absurd (cc)
small_count ops.Lt sign width m n w s e = absurd (cc)
small_count ops.Gt sign width m n w s e = absurd (cc)
small_count ops.Le sign width m n w s e = absurd (cc)
small_count ops.Ge sign width m n w s e = absurd (cc)
small_count ops.Eq sign width m n w s e = absurd (cc)
small_count ops.Ne sign width m n w s e = absurd (cc)
small_count ops.BitAnd sign width m n w s e = absurd (cc)
small_count ops.BitXor sign width m n w s e = absurd (cc)
small_count ops.BitOr sign width m n w s e = absurd (cc)

-- an operator that is no comparison gives a word of its own width
pub same_width : (op : BinaryOp) (sign : Bool) (width : Width) → is_comparison op ≡ false → result_width (tos_of op sign) width ≡ width
same_width ops.Mul sign width h = refl
same_width ops.Div true width h = refl
same_width ops.Div false width h = refl
same_width ops.Rem true width h = refl
same_width ops.Rem false width h = refl
same_width ops.Add sign width h = refl
same_width ops.Sub sign width h = refl
same_width ops.Shl sign width h = refl
same_width ops.Shr true width h = refl
same_width ops.Shr false width h = refl
same_width ops.Lt sign width h = absurd (cc)
same_width ops.Gt sign width h = absurd (cc)
same_width ops.Le sign width h = absurd (cc)
same_width ops.Ge sign width h = absurd (cc)
same_width ops.Eq sign width h = absurd (cc)
same_width ops.Ne sign width h = absurd (cc)
same_width ops.BitAnd sign width h = refl
same_width ops.BitXor sign width h = refl
same_width ops.BitOr sign width h = refl

module _ (op : BinaryOp) (t r : IntType) (a b z : ℤ) (plain : is_comparison op ≡ false) (operands : AreOperands op t r) (left : InRange t a) (right : InRange r b) (is : calculated op t a b ≡ Ok (Whole z)) where
  abbrev promoted : is_promoted t ≡ true
  promoted = operands.0

  plain_word : (n : ℕ) → result_word op t n ≡ word_of (result_type op t) z → n ≡ word_of t z
  plain_word n e =
      sym (narrowed_same t n promoted) ∙ ap (λ (c : Bool). if c then n else narrowed t n) (sym plain) ∙ e ∙ ap (λ (c : Bool). word_of (if c then I.Int else t) z) plain

  as_word : (n : ℕ) → GivesWord op t (word_of t a) n z → tos_result (tos_of op (is_signed_of t)) (width_of t) (word_of t a) n ≡ Some (word_of t z)
  as_word n h = h.given ∙ ap Some (plain_word h.word h.is)

  -- the routine of the operator, on the words that are in its registers
  pub word_given : tos_result (tos_of op (is_signed_of t)) (width_of t) (word_of t a) (converted_word r t (word_of r b)) ≡ Some (word_of t z)
  word_given = go (is_shift op) refl
    where
      go : (shift : Bool) → is_shift op ≡ shift → tos_result (tos_of op (is_signed_of t)) (width_of t) (word_of t a) (converted_word r t (word_of r b)) ≡ Some (word_of t z)
      go true h =
          let given = as_word (word_of r b) (shifts_are_on_words op t r a b z h left is) in
          let same : converted_word r t (word_of r b) ≡ word_of r b = small_type r t (word_of r b) promoted (small_count op (is_signed_of t) (width_of t) (word_of t a) (word_of r b) (word_of t z) h given) in
          ap (tos_result (tos_of op (is_signed_of t)) (width_of t) (word_of t a)) same ∙ given
      go false h =
          let same : r ≡ t = operands.1 h in
          let there : InRange t b = subst (λ k. InRange k b) same right in
          let own : converted_word t t (word_of t b) ≡ word_of t b = same_type t (word_of t b) promoted (word_below (width_of t) b) in
          ap (λ k. tos_result (tos_of op (is_signed_of t)) (width_of t) (word_of t a) (converted_word k t (word_of k b))) same
          ∙ ap (tos_result (tos_of op (is_signed_of t)) (width_of t) (word_of t a)) own ∙ as_word (word_of t b) (operators_are_on_words op t a b z h left there is)

-- ---- its range

no_order : (op : BinaryOp) → is_comparison op ≡ false → compares op ≡ false
no_order ops.Lt h = absurd (cc)
no_order ops.Gt h = absurd (cc)
no_order ops.Le h = absurd (cc)
no_order ops.Ge h = absurd (cc)
no_order ops.Eq h = absurd (cc)
no_order ops.Ne h = absurd (cc)
no_order ops.Mul h = refl
no_order ops.Div h = refl
no_order ops.Rem h = refl
no_order ops.Add h = refl
no_order ops.Sub h = refl
no_order ops.Shl h = refl
no_order ops.Shr h = refl
no_order ops.BitAnd h = refl
no_order ops.BitXor h = refl
no_order ops.BitOr h = refl

-- a result lies in the range of the left operand's type
pub result_in : (op : BinaryOp) (t : IntType) (a b z : ℤ) → is_comparison op ≡ false → InRange t a → calculated op t a b ≡ Ok (Whole z) → InRange t z
result_in op t a b z h range e = subst (λ c. Fits (calculated_shape c t) (Whole z)) (no_order op h) (operators_fit (λ n. None) op (Number t) (Number t) (Whole a) (Whole b) (Whole z) range e)

-- on two words of one type
pub words_given : (op : BinaryOp) (t : IntType) (a b z : ℤ) → is_comparison op ≡ false → is_promoted t ≡ true → InRange t a → InRange t b → calculated op t a b ≡ Ok (Whole z) → tos_result (tos_of op (is_signed_of t)) (width_of t) (word_of t a) (word_of t b) ≡ Some (word_of t z)
words_given op t a b z plain promoted left right e =
    ap (tos_result (tos_of op (is_signed_of t)) (width_of t) (word_of t a)) (sym (same_type t (word_of t b) promoted (word_below (width_of t) b)))
    ∙ word_given op t t a b z plain (promoted, λ h. refl) left right e
