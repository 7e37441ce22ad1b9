-- Operators on bits of a long word and a constant do their work.
use Rattle.std.proofs.Common.{◌≡◌, ℕ, ◌+◌, ◌≤◌, max, List, ◌++◌, length, ℤ, Bool, true, false, Some, refl, sym, ap, ◌∙◌, subst, arith}
use Rattle.std.specs.Prelude.{Ok}
use Rattle.c65_base.specs.declared.operators.BinaryOp.{BinaryOp}
use Rattle.c65_base.specs.declared.operators.BinaryOp.TheVariants as ops
use Rattle.c65_ints.specs.declared.types.IntType.{IntType}
use Rattle.c65_ints.specs.Ranges.{is_signed_of, residue, InRange}
use Rattle.c65_csem.specs.Places.{is_promoted}
use Rattle.c65_meaning.specs.Store.{Whole, Number}
use Rattle.c65_meaning.specs.Operators.{calculated}
use Rattle.c65_meaning.specs.State.{Scene}
use Rattle.c65_code.specs.declared.line.Line.{Line}
use Rattle.c65_code.specs.declared.routine.Width.{Width}
use Rattle.c65_code.specs.declared.routine.Width.TheVariants.{Ax, Eax}
use Rattle.c65_code.specs.LineState.{State, eax_of, IsBytes}
use Rattle.c65_code.specs.Numbers.{words_of, tos_result}
use Rattle.c65_code.specs.Placement.{IsPlacement}
use Rattle.c65_code.specs.Rows.{primary_of}
use Rattle.c65_genwide.specs.Wide.{width_of, tos_of, is_comparison}
use Rattle.c65_gendirect.specs.Words.{long_mask_code}
use Rattle.c65_genshift.specs.Shifts.{labelled}
use Rattle.c65_genexpr.specs.declared.operating.Form.{Form}
use Rattle.c65_genexpr.specs.declared.operating.Form.TheVariants.{Mask}
use Rattle.c65_genexpr.specs.Operands.{residue_of}
use Rattle.c65_genexpr.specs.Operating.{mask_by, number_form, value_form}
use Rattle.c65_agree_store.specs.Stands.{Placing, Banks}
use Rattle.c65_agree_numbers.specs.Words.{word_of}
use Rattle.c65_agree_numbers.proofs.Residues.{word_below}
use Rattle.c65_agree_state.specs.World.{World, Active}
use Rattle.c65_agree_state.specs.Exprs.{Ready, Valued}
use Rattle.c65_agree_frame.specs.Leads.{Leads}
use Rattle.c65_agree_frame.proofs.Leads.{leads_as}
use Rattle.c65_agree_load.proofs.Kept.{is_on}
use Rattle.c65_agree_operate.specs.Manners.{DoesIn}
use Rattle.c65_agree_operate.proofs.Given.{words_given}
use Rattle.c65_agree_quick.specs.Laws.{with_constant, IsBits, ConstantBitsDo, IsNow}
use Rattle.c65_agree_quick.proofs.Scratch.{scratch_leads}
use Rattle.c65_agree_quick.proofs.Shifted.{labelled_leads}
use Rattle.c65_agree_quick.proofs.Constants.{some_same}
use Rattle.c65_agree_quick.proofs.Does.{constant_does}
use Rattle.c65_agree_quick.proofs.Masks.{bits_on, bits_scratch, bits_word}

plain_bits : (op : BinaryOp) → IsBits op → is_comparison op ≡ false
plain_bits ops.BitAnd o = refl
plain_bits ops.BitXor o = refl
plain_bits ops.BitOr o = refl
plain_bits _ o = absurd o

bits_result : (op : BinaryOp) (sign : Bool) (width : Width) (m n : ℕ) → IsBits op → tos_result (tos_of op sign) width m n ≡ Some (bits_on op m n)
bits_result ops.BitAnd sign width m n o = refl
bits_result ops.BitXor sign width m n o = refl
bits_result ops.BitOr sign width m n o = refl
bits_result _ sign width m n o = absurd o

bits_form : (op : BinaryOp) (t : IntType) (n : ℕ) → IsBits op → number_form op t n ≡ mask_by op (width_of t) n
bits_form ops.BitAnd t n o = refl
bits_form ops.BitXor t n o = refl
bits_form ops.BitOr t n o = refl
bits_form _ t n o = absurd o

record IsLong (op : BinaryOp) (width : Width) (n : ℕ) (form : Form) : Type 0 where
  wide : width ≡ Eax
  is : form ≡ Mask op n

long_form : (op : BinaryOp) (width : Width) (n : ℕ) (form : Form) → mask_by op width n ≡ Some form → IsLong op width n form
long_form op Ax n form e = absurd (cc)
long_form op Eax n form e = record { wide = refl; is = cc }

short_lines : (op : BinaryOp) (n : ℕ) → length (long_mask_code op n) ≤ 2560
short_lines op n = omega arith

-- a long word is its number modulo 2 to the 32
long_word : (t : IntType) (z : ℤ) → width_of t ≡ Eax → word_of t z ≡ residue_of z
long_word t z wide = ap (λ width. residue (words_of width) z) wide

module _ (g : World) (a : Active) (pushed needs : ℕ) (c : Scene) (w : Placing) (b : Banks) (u : State) (placed : IsPlacement g.code g.place) (ready : Ready g a pushed needs c w b u) (op : BinaryOp) (t : IntType) (p z y : ℤ) (label : ℕ)
    (o : IsBits op) (wide : width_of t ≡ Eax) (promoted : is_promoted t ≡ true) (at : primary_of (width_of t) u ≡ word_of t p) (range : InRange t p) (range2 : InRange t z) (is : calculated op t p z ≡ Ok (Whole y)) where
  given : bits_on op (word_of t p) (residue_of z) ≡ word_of t y
  given =
      ap (bits_on op (word_of t p)) (sym (long_word t z wide))
      ∙ some_same _ _ (sym (bits_result op (is_signed_of t) (width_of t) (word_of t p) (word_of t z) o) ∙ words_given op t p z y (plain_bits op o) promoted range range2 is)

  bits_lead : Leads g a (labelled label (long_mask_code op (residue_of z))) 2560 u (IsNow g a c w b (width_of t) (word_of t y) u)
  bits_lead =
      let lines : List Line = long_mask_code op (residue_of z) in
      let bytes : IsBytes u = (is_on g a pushed needs c w b u placed ready).stacks.calm.bytes in
      let there : eax_of u ≡ word_of t p = subst (λ width. primary_of width u ≡ word_of t p) wide at in
      let word = bits_word g op (residue_of z) u o bytes (word_below Eax z) ∙ ap (λ m. bits_on op m (residue_of z)) there ∙ given in
      labelled_leads g a label 2560 lines u (IsNow g a c w b (width_of t) (word_of t y) u)
      (leads_as g a lines (length lines) 2560 u (IsNow g a c w b Eax (word_of t y) u) (IsNow g a c w b (width_of t) (word_of t y) u) (short_lines op (residue_of z))
      (λ x h. record { kept = h.kept; word = subst (λ width. primary_of width x ≡ word_of t y) (sym wide) h.word })
      (scratch_leads g a pushed needs c w b Eax placed lines (word_of t y) u ready (bits_scratch op (residue_of z) o) word))

pub constant_bits_do : ConstantBitsDo
constant_bits_do g a m op t z form label needs more_needs pushed first left right placed heavy few o promoted range is before =
    let f = long_form op (width_of t) (residue_of z) form (sym (bits_form op t (residue_of z) o) ∙ is) in
    subst (λ x. DoesIn g a m Valued (Number t) (with_constant op t t z first) (max needs (1 + more_needs)) pushed (left ++ value_form x label)) (sym f.is)
    (constant_does g a m op t t z needs more_needs pushed first left (labelled label (long_mask_code op (residue_of z))) heavy few (plain_bits op o) range
    (λ c w b u p y ready at range1 e. bits_lead g a pushed more_needs c w b u placed ready op t p z y label o f.wide promoted at range1 range e)
    before)
