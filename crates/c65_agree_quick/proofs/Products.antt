-- Products with powers of two, quotients and remainders by them, and operators on bits of long words, do their work.
use Rattle.std.proofs.Common.{◌≡◌, ℕ, zero, suc, ◌+◌, ◌-◌, ◌*◌, ◌/◌, ◌%◌, ◌^◌, ◌<◌, ◌≤◌, max, List, ◌++◌, length, ℤ, pos, negsuc, Bool, true, false, Option, Some, None, refl, sym, ap, ◌∙◌, subst, arith}
use Rattle.std.specs.Prelude.{◌==◌, if◌then◌else◌, option_map, bit_and, Ok}
use Rattle.std.proofs.lemmas.Nat.{and_mask, mul-mod_second, pow_pos}
use Rattle.std.proofs.lemmas.Bool.{eqb-true}
use Rattle.c65_base.specs.declared.operators.BinaryOp.{BinaryOp}
use Rattle.c65_base.specs.declared.operators.BinaryOp.TheVariants as ops
use Rattle.c65_ints.specs.declared.types.IntType.{IntType}
use Rattle.c65_ints.specs.Ranges.{is_signed_of, residue, InRange}
use Rattle.c65_csem.specs.Places.{is_promoted}
use Rattle.c65_meaning.specs.Store.{Whole, Number}
use Rattle.c65_meaning.specs.Items.{Item}
use Rattle.c65_meaning.specs.Operators.{calculated}
use Rattle.c65_meaning.specs.State.{Scene}
use Rattle.c65_code.specs.declared.line.Line.{Line}
use Rattle.c65_code.specs.declared.routine.TosOp.{TosOp}
use Rattle.c65_code.specs.declared.routine.TosOp.TheVariants as tos
use Rattle.c65_code.specs.declared.routine.Width.{Width}
use Rattle.c65_code.specs.declared.routine.Width.TheVariants.{Ax, Eax}
use Rattle.c65_code.specs.LineState.{State, IsBytes}
use Rattle.c65_code.specs.Numbers.{words_of, divided, tos_result}
use Rattle.c65_code.specs.Placement.{IsPlacement}
use Rattle.c65_code.specs.Rows.{primary_of}
use Rattle.c65_genwide.specs.Wide.{width_of, tos_of, is_comparison}
use Rattle.c65_genshift.specs.declared.quick.Quick.TheVariants.{Shift, Mask}
use Rattle.c65_genshift.specs.Quick.{power_below, power_of, scaled_if, rest_if, quick_by, mask_by_width, quick_code}
use Rattle.c65_genexpr.specs.declared.operating.Form.{Form}
use Rattle.c65_genexpr.specs.declared.operating.Form.TheVariants.{Constant}
use Rattle.c65_genexpr.specs.Operands.{residue_of}
use Rattle.c65_genexpr.specs.Operating.{number_form, value_form}
use Rattle.c65_agree_store.specs.Stands.{Placing, Banks}
use Rattle.c65_agree_numbers.specs.Words.{word_of}
use Rattle.c65_agree_numbers.proofs.Ranges.{Within, within}
use Rattle.c65_agree_numbers.proofs.Residues.{word_below}
use Rattle.c65_agree_state.specs.World.{World, Active, lines_of, IsPlaced}
use Rattle.c65_agree_state.specs.Exprs.{Ready, Valued}
use Rattle.c65_agree_frame.specs.Leads.{Leads}
use Rattle.c65_agree_frame.proofs.Leads.{leads_as}
use Rattle.c65_agree_load.proofs.Kept.{is_on}
use Rattle.c65_agree_operate.specs.Manners.{Manner, DoesIn}
use Rattle.c65_agree_operate.proofs.Given.{words_given}
use Rattle.c65_agree_operate_bytes.proofs.Sums.{amount_adds}
use Rattle.c65_agree_quick.specs.Laws.{with_constant, ConstantProductsDo, IsNow}
use Rattle.c65_agree_quick.proofs.Powers.{moved}
use Rattle.c65_agree_quick.proofs.Scratch.{scratch_leads}
use Rattle.c65_agree_quick.proofs.Shifted.{labelled_leads}
use Rattle.c65_agree_quick.proofs.Constants.{some_same, IsShortShift, short_form}
use Rattle.c65_agree_quick.proofs.Does.{constant_does}
use Rattle.c65_agree_quick.proofs.Shifts.{quick_is, short_leads}
use Rattle.c65_agree_quick.proofs.Masks.{mask_word_scratch, mask_word_word, mask_long_scratch, mask_long_word, mask_short}

-- ---- the constant

-- its word is what it is modulo 2 to the 32, modulo the words of the width
constant_word : (width : Width) (z : ℤ) → residue_of z % words_of width ≡ residue (words_of width) z
constant_word width z = by width (some_same _ _ (amount_adds ops.Add true width 0 z tt)) (word_below width z)
  where
    by : (width : Width) → (0 + residue (words_of width) z) % words_of width ≡ (0 + residue_of z) % words_of width → residue (words_of width) z < words_of width → residue_of z % words_of width ≡ residue (words_of width) z
    by Ax e h = omega (arith, e, h)
    by Eax e h = omega (arith, e, h)

-- without sign it is its own word
unsigned_word : (t : IntType) (z : ℤ) → is_signed_of t ≡ false → InRange t z → word_of t z ≡ residue_of z
unsigned_word t z plain range = by (width_of t) z (subst (λ s. Within s (width_of t) z) plain (within t z range))
  where
    by : (width : Width) (z : ℤ) → Within false width z → residue (words_of width) z ≡ residue_of z
    by Ax (pos n) h = omega (arith, h)
    by Eax (pos n) h = omega (arith, h)
    by width (negsuc n) h = absurd h

pub power_is : (b n k : ℕ) → power_below b n ≡ Some k → n ≡ 2 ^ k
power_is zero n k e = absurd (cc)
power_is (suc j) n k e = by (n == 2 ^ j) refl e (power_is j n k)
  where
    by : (c : Bool) → (n == 2 ^ j) ≡ c → (if c then Some j else power_below j n) ≡ Some k → (power_below j n ≡ Some k → n ≡ 2 ^ k) → n ≡ 2 ^ k
    by true is e lower = eqb-true n (2 ^ j) is ∙ ap (λ i. 2 ^ i) (some_same j k e)
    by false is e lower = lower e

-- ---- products and quotients

record IsScaled (t : IntType) (op : TosOp) (n : ℕ) (form : Form) : Type 0 where
  bits : ℕ
  power : n ≡ 2 ^ bits
  shift : IsShortShift t op bits form

scaled_form : (t : IntType) (op : TosOp) (n : ℕ) (form : Form) → option_map (Constant t) (scaled_if op (width_of t) (power_of n)) ≡ Some form → IsScaled t op n form
scaled_form t op n form e = by (power_of n) refl e
  where
    by : (k : Option ℕ) → power_of n ≡ k → option_map (Constant t) (scaled_if op (width_of t) k) ≡ Some form → IsScaled t op n form
    by (Some k) is e = record { bits = k; power = power_is 32 n k is; shift = short_form t op k form e }
    by None is e = absurd (cc)

product_given : (t : IntType) (p z y : ℤ) (k : ℕ) → residue_of z ≡ 2 ^ k → is_promoted t ≡ true → InRange t p → InRange t z → calculated ops.Mul t p z ≡ Ok (Whole y) → moved tos.Shl (width_of t) (word_of t p) k ≡ word_of t y
product_given t p z y k power promoted range range2 is =
    let w : ℕ = words_of (width_of t) in
    let m : ℕ = word_of t p in
    let given : (m * word_of t z) % w ≡ word_of t y = some_same _ _ (words_given ops.Mul t p z y refl promoted range range2 is) in
    ap (λ n. (m * n) % w) (sym power) ∙ sym (mul-mod_second m (residue_of z) w) ∙ ap (λ n. (m * n) % w) (constant_word (width_of t) z) ∙ given

-- a divisor is not 0
by_power : (v k x : ℕ) → divided (2 ^ k) v ≡ Some x → v ≡ x
by_power v k x e = by (2 ^ k == 0) refl e
  where
    by : (b : Bool) → (2 ^ k == 0) ≡ b → (if b then None else Some v) ≡ Some x → v ≡ x
    by false is e = some_same v x e
    by true is e = let none : 2 ^ k ≡ 0 = eqb-true (2 ^ k) 0 is in let some : 0 < 2 ^ k = pow_pos k in absurd (omega (arith, none, some))

module _ (op : BinaryOp) (t : IntType) (p z y : ℤ) (k : ℕ) (plain : is_comparison op ≡ false) (power : residue_of z ≡ 2 ^ k) (promoted : is_promoted t ≡ true) (range : InRange t p) (range2 : InRange t z) (is : calculated op t p z ≡ Ok (Whole y)) (unsigned : is_signed_of t ≡ false) where
  by_constant : tos_result (tos_of op false) (width_of t) (word_of t p) (2 ^ k) ≡ Some (word_of t y)
  by_constant =
      ap (tos_result (tos_of op false) (width_of t) (word_of t p)) (sym power ∙ sym (unsigned_word t z unsigned range2))
      ∙ ap (λ s. tos_result (tos_of op s) (width_of t) (word_of t p) (word_of t z)) (sym unsigned)
      ∙ words_given op t p z y plain promoted range range2 is

quotient_given : (t : IntType) (p z y : ℤ) (k : ℕ) → residue_of z ≡ 2 ^ k → is_promoted t ≡ true → InRange t p → InRange t z → calculated ops.Div t p z ≡ Ok (Whole y) → is_signed_of t ≡ false → moved tos.Shr (width_of t) (word_of t p) k ≡ word_of t y
quotient_given t p z y k power promoted range range2 is unsigned = by_power (word_of t p / 2 ^ k) k (word_of t y) (by_constant ops.Div t p z y k refl power promoted range range2 is unsigned)

rest_given : (t : IntType) (p z y : ℤ) (k : ℕ) → residue_of z ≡ 2 ^ k → is_promoted t ≡ true → InRange t p → InRange t z → calculated ops.Rem t p z ≡ Ok (Whole y) → is_signed_of t ≡ false → bit_and (word_of t p) (residue_of z - 1) ≡ word_of t y
rest_given t p z y k power promoted range range2 is unsigned =
    ap (λ n. bit_and (word_of t p) (n - 1)) power ∙ and_mask (word_of t p) k ∙ by_power (word_of t p % 2 ^ k) k (word_of t y) (by_constant ops.Rem t p z y k refl power promoted range range2 is unsigned)

-- ---- remainders

record IsRest (t : IntType) (n : ℕ) (form : Form) : Type 0 where
  bits : ℕ
  power : n ≡ 2 ^ bits
  is : form ≡ Constant t (Mask (n - 1))

rest_form : (t : IntType) (n : ℕ) (form : Form) → option_map (Constant t) (rest_if n (power_of n)) ≡ Some form → IsRest t n form
rest_form t n form e = by (power_of n) refl e
  where
    by : (k : Option ℕ) → power_of n ≡ k → option_map (Constant t) (rest_if n k) ≡ Some form → IsRest t n form
    by (Some k) is e = record { bits = k; power = power_is 32 n k is; is = cc }
    by None is e = absurd (cc)

module _ (g : World) (a : Active) (pushed needs : ℕ) (c : Scene) (w : Placing) (b : Banks) (u : State) (placed : IsPlacement g.code g.place) (ready : Ready g a pushed needs c w b u) where
  own_bytes : IsBytes u
  own_bytes = (is_on g a pushed needs c w b u placed ready).stacks.calm.bytes

  mask_leads : (width : Width) (n : ℕ) → n < words_of width → Leads g a (mask_by_width width n) (length (mask_by_width width n)) u (IsNow g a c w b width (bit_and (primary_of width u) n) u)
  mask_leads Ax n small = scratch_leads g a pushed needs c w b Ax placed (mask_by_width Ax n) _ u ready (mask_word_scratch n) (mask_word_word g n u own_bytes small)
  mask_leads Eax n small = scratch_leads g a pushed needs c w b Eax placed (mask_by_width Eax n) _ u ready (mask_long_scratch n) (mask_long_word g n u own_bytes small)

  rest_leads : (t : IntType) (n label y : ℕ) → is_promoted t ≡ true → n < words_of (width_of t) → bit_and (primary_of (width_of t) u) n ≡ y → Leads g a (quick_code t (Mask n) label) 2560 u (IsNow g a c w b (width_of t) y u)
  rest_leads t n label y promoted small gives =
      let lines : List Line = mask_by_width (width_of t) n in
      subst (λ ls. Leads g a ls 2560 u (IsNow g a c w b (width_of t) y u)) (quick_is t (Mask n) label promoted)
      (labelled_leads g a label 2560 lines u (IsNow g a c w b (width_of t) y u)
      (leads_as g a lines (length lines) 2560 u (IsNow g a c w b (width_of t) (bit_and (primary_of (width_of t) u) n) u) (IsNow g a c w b (width_of t) y u) (omega (arith, mask_short (width_of t) n))
      (λ x h. record { kept = h.kept; word = h.word ∙ gives }) (mask_leads (width_of t) n small)))

-- ---- the law

module _ (g : World) (a : Active) (m : Manner) (t : IntType) (z : ℤ) (form : Form) (label needs more_needs pushed : ℕ) (first : List Item → List Item) (left : List Line)
    (placed : IsPlacement g.code g.place) (own : IsPlaced (lines_of g a)) (heavy : m.light ≡ false) (few : m.over ≤ 1000) (promoted : is_promoted t ≡ true) (range : InRange t z) (before : DoesIn g a m Valued (Number t) first needs pushed left) where
  abbrev Behind : BinaryOp → Form → Type 0
  Behind op x = DoesIn g a m Valued (Number t) (with_constant op t t z first) (max needs (1 + more_needs)) pushed (left ++ value_form x label)

  scaled : (op : BinaryOp) (o : TosOp) → is_comparison op ≡ false → (f : IsScaled t o (residue_of z) form) → ((p y : ℤ) → InRange t p → calculated op t p z ≡ Ok (Whole y) → moved o (width_of t) (word_of t p) f.bits ≡ word_of t y) → Behind op form
  scaled op o plain f given =
      subst (Behind op) (sym f.shift.is)
      (constant_does g a m op t t z needs more_needs pushed first left (quick_code t (Shift o f.bits) label) heavy few plain range
      (λ c w b u p y ready at range1 e. short_leads g a pushed more_needs c w b t o f.bits label (word_of t p) (word_of t y) u placed own promoted ready f.shift.short at (given p y range1 e))
      before)

  product : number_form ops.Mul t (residue_of z) ≡ Some form → Behind ops.Mul form
  product is =
      let f = scaled_form t tos.Shl (residue_of z) form is in
      scaled ops.Mul tos.Shl refl f (λ p y range1 e. product_given t p z y f.bits f.power promoted range1 range e)

  -- by the routine's operator, which is that of the sign
  abbrev quick_for : BinaryOp → Bool → Option Form
  quick_for op sign = option_map (Constant t) (quick_by (tos_of op sign) (width_of t) (residue_of z))

  quotient : quick_for ops.Div (is_signed_of t) ≡ Some form → Behind ops.Div form
  quotient is = by (is_signed_of t) refl
    where
      by : (sign : Bool) → is_signed_of t ≡ sign → Behind ops.Div form
      by true s = let none : None ≡ Some form = sym (ap (quick_for ops.Div) s) ∙ is in absurd (cc)
      by false s =
          let f = scaled_form t tos.Shr (residue_of z) form (sym (ap (quick_for ops.Div) s) ∙ is) in
          scaled ops.Div tos.Shr refl f (λ p y range1 e. quotient_given t p z y f.bits f.power promoted range1 range e s)

  remainder : quick_for ops.Rem (is_signed_of t) ≡ Some form → Behind ops.Rem form
  remainder is = by (is_signed_of t) refl
    where
      by : (sign : Bool) → is_signed_of t ≡ sign → Behind ops.Rem form
      by true s = let none : None ≡ Some form = sym (ap (quick_for ops.Rem) s) ∙ is in absurd (cc)
      by false s =
          let f = rest_form t (residue_of z) form (sym (ap (quick_for ops.Rem) s) ∙ is) in
          let n : ℕ = residue_of z - 1 in
          let small : n < words_of (width_of t) = omega (arith, unsigned_word t z s range, word_below (width_of t) z) in
          subst (Behind ops.Rem) (sym f.is)
          (constant_does g a m ops.Rem t t z needs more_needs pushed first left (quick_code t (Mask n) label) heavy few refl range
          (λ c w b u p y ready at range1 e. rest_leads g a pushed more_needs c w b u placed ready t n label (word_of t y) promoted small
          (ap (λ x. bit_and x n) at ∙ rest_given t p z y f.bits f.power promoted range1 range e s))
          before)

pub constant_products_do : ConstantProductsDo
constant_products_do g a m ops.Mul t z form label needs more_needs pushed first left right placed own heavy few o promoted range is before = product g a m t z form label needs more_needs pushed first left placed own heavy few promoted range before is
constant_products_do g a m ops.Div t z form label needs more_needs pushed first left right placed own heavy few o promoted range is before = quotient g a m t z form label needs more_needs pushed first left placed own heavy few promoted range before is
constant_products_do g a m ops.Rem t z form label needs more_needs pushed first left right placed own heavy few o promoted range is before = remainder g a m t z form label needs more_needs pushed first left placed own heavy few promoted range before is
constant_products_do g a m _ t z form label needs more_needs pushed first left right placed own heavy few o promoted range is before = absurd o
