-- Operators on AX, which has the right operand, and a word that has the left one.
use Rattle.std.proofs.Common.{◌≡◌, ℕ, ◌+◌, ◌*◌, ◌%◌, [], ◌∷◌, ◌++◌, ℤ, Some, true, false, refl, sym, ap, ◌∙◌, subst, arith}
use Rattle.std.specs.Prelude.{Ok}
use Rattle.std.proofs.lemmas.Nat.{and_comm, or_comm, xor_comm}
use Rattle.c65_base.specs.declared.operators.BinaryOp.{BinaryOp}
use Rattle.c65_base.specs.declared.operators.BinaryOp.TheVariants as ops
use Rattle.c65_ints.specs.declared.types.IntType.{IntType}
use Rattle.c65_ints.specs.Ranges.{InRange}
use Rattle.c65_csem.specs.Places.{is_promoted}
use Rattle.c65_meaning.specs.Store.{Whole}
use Rattle.c65_meaning.specs.Operators.{calculated}
use Rattle.c65_meaning.specs.State.{Scene}
use Rattle.c65_code.specs.declared.line.Line.TheVariants.{Label}
use Rattle.c65_code.specs.declared.routine.Width.{Width}
use Rattle.c65_code.specs.declared.routine.Width.TheVariants.{Ax, Eax}
use Rattle.c65_code.specs.LineState.{State, ax_of}
use Rattle.c65_code.specs.Placement.{IsPlacement}
use Rattle.c65_code.specs.Rows.{primary_of}
use Rattle.c65_genwide.specs.Wide.{width_of, is_comparison}
use Rattle.c65_gendirect.specs.declared.bytes.OperandByte.{OperandByte}
use Rattle.c65_gendirect.specs.Words.{taken_from_code}
use Rattle.c65_genexpr.specs.declared.operands.Operands.TheVariants.{Numbers}
use Rattle.c65_genexpr.specs.declared.operating.Form.{Form}
use Rattle.c65_genexpr.specs.declared.operating.Form.TheVariants as forms
use Rattle.c65_genexpr.specs.Operating.{takes_bytes, word_if, under_if, left_form, value_form}
use Rattle.c65_agree_store.specs.Stands.{Placing, Banks}
use Rattle.c65_agree_numbers.specs.Words.{word_of}
use Rattle.c65_agree_state.specs.World.{World, Active, lines_of, IsPlaced}
use Rattle.c65_agree_state.specs.Exprs.{Ready}
use Rattle.c65_agree_frame.specs.Leads.{Leads}
use Rattle.c65_agree_frame.proofs.Leads.{leads_then, leads_as}
use Rattle.c65_agree_direct.specs.Operands.{byte_in}
use Rattle.c65_agree_operate.specs.Manners.{Manner}
use Rattle.c65_agree_operate_bytes.specs.Laws.{IsAside}
use Rattle.c65_agree_operate.proofs.Manners.{left_held}
use Rattle.c65_agree_operate.proofs.Routines.{label_leads}
use Rattle.c65_agree_operate_bytes.proofs.Words.{word_on}
use Rattle.c65_agree_operate.proofs.Lefts.{HasWord}
use Rattle.c65_agree_operate_bytes.proofs.Rights.{bytes_lead, own_word, HasPair}
use Rattle.c65_agree_operate_bytes.proofs.Under.{Under, under_leads}

-- the form of such an operator: that of a sum, a product or an operator on bits, whose operands may change sides, or of a difference
pub data ReadForm (op : BinaryOp) (t : IntType) (low high : OperandByte) (form : Form) : Type 0 where
  by_word : takes_bytes op ≡ true → (op ≡ ops.Sub → ⊥) → width_of t ≡ Ax → form ≡ forms.Word op low high → ReadForm op t low high form
  by_under : op ≡ ops.Sub → width_of t ≡ Ax → form ≡ forms.Under low high → ReadForm op t low high form

module _ (t : IntType) (low high : OperandByte) (form : Form) where
  of_word : (op : BinaryOp) → takes_bytes op ≡ true → (op ≡ ops.Sub → ⊥) → (width : Width) → width_of t ≡ width → word_if true op width low high ≡ Some form → ReadForm op t low high form
  of_word op takes other Ax e h = by_word takes other e (cc)
  of_word op takes other Eax e h = absurd (cc)

  of_under : (width : Width) → width_of t ≡ width → under_if width low high ≡ Some form → ReadForm ops.Sub t low high form
  of_under Ax e h = by_under refl e (cc)
  of_under Eax e h = absurd (cc)

  pub read_form : (op : BinaryOp) → left_form op (Numbers t) low high ≡ Some form → ReadForm op t low high form
  read_form ops.Sub h = of_under (width_of t) refl h
  read_form ops.Add h = of_word ops.Add refl (λ e. cc) (width_of t) refl h
  read_form ops.BitAnd h = of_word ops.BitAnd refl (λ e. cc) (width_of t) refl h
  read_form ops.BitXor h = of_word ops.BitXor refl (λ e. cc) (width_of t) refl h
  read_form ops.BitOr h = of_word ops.BitOr refl (λ e. cc) (width_of t) refl h
  read_form ops.Mul h = absurd (cc)
  read_form ops.Div h = absurd (cc)
  read_form ops.Rem h = absurd (cc)
  read_form ops.Shl h = absurd (cc)
  read_form ops.Shr h = absurd (cc)
  read_form ops.Lt h = absurd (cc)
  read_form ops.Gt h = absurd (cc)
  read_form ops.Le h = absurd (cc)
  read_form ops.Ge h = absurd (cc)
  read_form ops.Eq h = absurd (cc)
  read_form ops.Ne h = absurd (cc)

-- such an operator is on words
pub narrow_form : (op : BinaryOp) (t : IntType) (low high : OperandByte) (form : Form) → left_form op (Numbers t) low high ≡ Some form → width_of t ≡ Ax
narrow_form op t low high form h = go (read_form t low high form op h)
  where
    go : ReadForm op t low high form → width_of t ≡ Ax
    go (by_word takes other narrow same) = narrow
    go (by_under minus narrow same) = narrow

-- no comparison has one
pub read_is_plain : (op : BinaryOp) (t : IntType) (low high : OperandByte) (form : Form) → left_form op (Numbers t) low high ≡ Some form → is_comparison op ≡ false
read_is_plain ops.Lt t low high form h = absurd (cc)
read_is_plain ops.Gt t low high form h = absurd (cc)
read_is_plain ops.Le t low high form h = absurd (cc)
read_is_plain ops.Ge t low high form h = absurd (cc)
read_is_plain ops.Eq t low high form h = absurd (cc)
read_is_plain ops.Ne t low high form h = absurd (cc)
read_is_plain ops.Mul t low high form h = refl
read_is_plain ops.Div t low high form h = refl
read_is_plain ops.Rem t low high form h = refl
read_is_plain ops.Add t low high form h = refl
read_is_plain ops.Sub t low high form h = refl
read_is_plain ops.Shl t low high form h = refl
read_is_plain ops.Shr t low high form h = refl
read_is_plain ops.BitAnd t low high form h = refl
read_is_plain ops.BitXor t low high form h = refl
read_is_plain ops.BitOr t low high form h = refl

-- the operands change sides
commutes : (op : BinaryOp) (m n : ℕ) → (op ≡ ops.Sub → ⊥) → word_on op m n ≡ word_on op n m
commutes ops.Add m n h = let same : m + n ≡ n + m = omega arith in ap (λ x. x % 65536) same
commutes ops.Sub m n h = absurd (h refl)
commutes ops.BitAnd m n h = and_comm m n
commutes ops.BitXor m n h = xor_comm m n
commutes _ m n h = or_comm m n

module _ (g : World) (a : Active) (m : Manner) (op : BinaryOp) (t : IntType) (label pushed needs : ℕ) (low high : OperandByte) (form : Form) (placed : IsPlacement g.code g.place) (own : IsPlaced (lines_of g a)) (promoted : is_promoted t ≡ true) (apart : IsAside low) (apart2 : IsAside high)
    (c : Scene) (w : Placing) (b : Banks) (u : State) (p q z : ℤ) (ready : Ready g a pushed needs c w b u) (is : primary_of (width_of t) u ≡ word_of t q) (pair : HasPair g u low high (word_of t p)) (left : InRange t p) (right : InRange t q) (calculates : calculated op t p q ≡ Ok (Whole z)) where
  ax : width_of t ≡ Ax → ax_of u ≡ word_of t q
  ax narrow = subst (λ width. primary_of width u ≡ word_of t q) narrow is

  given : ReadForm op t low high form → Leads g a (value_form form label) 2560 u (HasWord g a m t c w b u (word_of t z))
  given (by_word takes other narrow same) =
      let gives : word_on op (ax_of u) (byte_in g u low + 256 * byte_in g u high) ≡ word_of t z =
      ap (λ n. word_on op n (byte_in g u low + 256 * byte_in g u high)) (ax narrow) ∙ ap (word_on op (word_of t q)) pair.word ∙ commutes op (word_of t q) (word_of t p) other ∙ own_word op t p q z takes promoted narrow left right calculates in
      subst (λ f. Leads g a (value_form f label) 2560 u (HasWord g a m t c w b u (word_of t z))) (sym same)
      (bytes_lead g a m op t label pushed needs (word_of t z) low high placed own takes narrow c w b u ready pair.may pair.may2 pair.small pair.small2 gives)
  given (by_under minus narrow same) =
      let sub : calculated ops.Sub t p q ≡ Ok (Whole z) = subst (λ o. calculated o t p q ≡ Ok (Whole z)) minus calculates in
      let gives : word_on ops.Sub (byte_in g u low + 256 * byte_in g u high) (ax_of u) ≡ word_of t z =
      ap (λ n. word_on ops.Sub n (ax_of u)) pair.word ∙ ap (word_on ops.Sub (word_of t p)) (ax narrow) ∙ own_word ops.Sub t p q z refl promoted narrow left right sub in
      subst (λ f. Leads g a (value_form f label) 2560 u (HasWord g a m t c w b u (word_of t z))) (sym same)
      (leads_as g a (taken_from_code low high ++ Label label ∷ []) 14 2560 u (HasWord g a m t c w b u (word_of t z)) (HasWord g a m t c w b u (word_of t z)) (omega arith) (λ x h. h)
      (leads_then g a (taken_from_code low high) (Label label ∷ []) 14 0 u (Under g a pushed needs c w b u placed ready low high) (HasWord g a m t c w b u (word_of t z))
      (under_leads g a pushed needs c w b u placed ready low high pair.may pair.may2 apart apart2 pair.small pair.small2) (λ x h.
      label_leads g a label x (HasWord g a m t c w b u (word_of t z)) (record { kept = h.kept; word = subst (λ width. primary_of width x ≡ word_of t z) (sym narrow) (h.word ∙ gives); left = left_held m c u x h.held }))))

  pub swapped_leads : left_form op (Numbers t) low high ≡ Some form → Leads g a (value_form form label) 2560 u (HasWord g a m t c w b u (word_of t z))
  swapped_leads h = given (read_form t low high form op h)
