-- Sums with pointers whose right operand is read where it lies.
use Rattle.std.proofs.Common.{◌≡◌, ℕ, ◌+◌, ◌<◌, ◌≤◌, max, List, ◌∷◌, ◌++◌, ℤ, pos, ◌-ℤ◌, int_div, Bool, true, false, Option, Some, None, refl, sym, ap, ◌∙◌, subst, arith}
use Rattle.std.specs.Prelude.{◌==◌, if◌then◌else◌, Ok}
use Rattle.std.proofs.lemmas.Bool.{eqb-true}
use Rattle.c65_base.specs.declared.operators.BinaryOp.{BinaryOp}
use Rattle.c65_base.specs.declared.operators.BinaryOp.TheVariants as ops
use Rattle.c65_ints.specs.declared.types.IntType.{IntType}
use Rattle.c65_ints.specs.declared.types.IntType.TheVariants.{Int, UInt}
use Rattle.c65_ints.specs.Ranges.{residue}
use Rattle.c65_meaning.specs.Store.{Value, Whole, Shape, Number, Pointer}
use Rattle.c65_meaning.specs.Items.{Item}
use Rattle.c65_meaning.specs.Fits.{Fits}
use Rattle.c65_meaning.specs.Operators.{binary}
use Rattle.c65_meaning.specs.State.{Scene}
use Rattle.c65_code.specs.declared.line.Line.{Line}
use Rattle.c65_code.specs.declared.routine.Width.TheVariants.{Ax}
use Rattle.c65_code.specs.LineState.{State, ax_of}
use Rattle.c65_code.specs.Placement.{IsPlacement}
use Rattle.c65_gendirect.specs.declared.bytes.OperandByte.{OperandByte}
use Rattle.c65_gendirect.specs.declared.direct.Direct.{Direct}
use Rattle.c65_genexpr.specs.declared.operands.Operands.TheVariants.{PointerFirst, PointerLast, Pointers}
use Rattle.c65_genexpr.specs.declared.operating.Form.{Form}
use Rattle.c65_genexpr.specs.declared.operating.Form.TheVariants.{Word, Indexed, Distance}
use Rattle.c65_genexpr.specs.Operating.{takes_bytes, element_form, is_light_form, word_in, value_form}
use Rattle.c65_agree_store.specs.Stands.{Placing, Banks}
use Rattle.c65_agree_state.specs.World.{World, Active, lines_of, IsPlaced}
use Rattle.c65_agree_state.specs.Exprs.{Ready, Valued, MayFit, ResultIs, width_in}
use Rattle.c65_agree_frame.specs.Leads.{Leads}
use Rattle.c65_agree_direct.specs.Operands.{IsOfLive, HasBytes}
use Rattle.c65_agree_operate.specs.Manners.{Manner}
use Rattle.c65_agree_operate.proofs.Behind.{IsGiven}
use Rattle.c65_agree_operate_bytes.specs.Laws.{IsSum}
use Rattle.c65_agree_operate_bytes.proofs.Words.{word_on}
use Rattle.c65_agree_operate_bytes.proofs.Rights.{HasPair}
use Rattle.c65_agree_pointers.specs.Sums.{told, Summing, pointer_first, pointer_last, pointers}
use Rattle.c65_agree_pointers.specs.Laws.{DirectRightSumsDo}
use Rattle.c65_agree_pointers.proofs.Moved.{pointer_summed, number_summed}
use Rattle.c65_agree_pointers.proofs.Apart.{are_apart, apart_is}
use Rattle.c65_agree_pointers.proofs.Words.{pointer_word, number_word, number_pair, pointer_pair, sums_fit}
use Rattle.c65_agree_pointers.proofs.Given.{moved_given, number_given, one_byte}
use Rattle.c65_agree_pointers.proofs.Forms.{word_form, distance_form}
use Rattle.c65_agree_pointers.proofs.Indexed.{indexed_leads}
use Rattle.c65_agree_pointers.proofs.Walks.{IsReadAt, read_takes_none, right_read}

-- ---- the forms

pub record IsWordForm (op : BinaryOp) (size : ℕ) (low high : OperandByte) (form : Form) : Type 0 where
  pub one : size ≡ 1
  pub form_is : form ≡ Word op low high

of_one : (op : BinaryOp) (size : ℕ) (low high : OperandByte) (form : Form) (b : Bool) → (size == 1) ≡ b → (if b then Some (Word op low high) else None) ≡ Some form → IsWordForm op size low high form
of_one op size low high form true e h = record { one = eqb-true size 1 e; form_is = cc }
of_one op size low high form false e h = absurd (cc)

pub word_form_is : (op : BinaryOp) (size : ℕ) (low high : OperandByte) (form : Form) → IsSum op → element_form op size low high ≡ Some form → IsWordForm op size low high form
word_form_is ops.Add size low high form o h = of_one ops.Add size low high form (size == 1) refl h
word_form_is ops.Sub size low high form o h = of_one ops.Sub size low high form (size == 1) refl h
word_form_is _ size low high form o h = absurd o

sums_take : (op : BinaryOp) → IsSum op → takes_bytes op ≡ true
sums_take ops.Add o = refl
sums_take ops.Sub o = refl
sums_take _ o = absurd o

pub same_form : (x y : Form) → Some x ≡ Some y → y ≡ x
same_form x y e = cc

-- ---- by the operands

module _ (g : World) (a : Active) (m : Manner) (label pushed needs : ℕ) (d : Direct) (low high : OperandByte) (placed : IsPlacement g.code g.place) (own : IsPlaced (lines_of g a)) (pair : word_in d ≡ Some (low, high)) where
  pointer_leads : (op : BinaryOp) (size : ℕ) (t : IntType) → IsSum op → told size ≡ 1 → (c : Scene) (w : Placing) (b : Banks) (u : State) (va vb x : Value) → Ready g a pushed (1 + needs) c w b u → MayFit Valued (Pointer size) va → ResultIs Valued w Ax va u → Fits (Number t) vb
      → IsReadAt g a pushed (Number t) d c w u vb → binary c.store op (Pointer size) (Number t) va vb ≡ Ok x → Leads g a (value_form (Word op low high) label) 2560 u (IsGiven g a m (Pointer size) c w b u x)
  pointer_leads op size t sums one c w b u va vb x ready fit1 is fit2 reads e =
      let s = pointer_summed c.store op size t va vb x sums e in
      let small = ready.joins.bytes in
      let p : ℕ = residue 65536 s.count in
      let there : HasPair g u low high p = number_pair g c.store w u t d low high s.count pair (subst (λ v. HasBytes g c.store w u (width_in (Number t)) d v) s.right (reads (1 + needs) b u ready)) in
      moved_given g a m pushed (1 + needs) c w b u ready op size (ax_of u) (word_on op (ax_of u) p) w va x s.count (value_form (Word op low high) label) sums (λ i q f. f) (omega (arith, small.a, small.x)) (pointer_word size w va u fit1 is) s.moved (ap (word_on op (ax_of u)) (one_byte s.count size one))
      (word_form g a m label pushed (1 + needs) low high placed own c w b u ready p there op (sums_take op sums))

  last_leads : (size : ℕ) (t : IntType) → (m.light ≡ true → (told size == 1) ≡ true) → (c : Scene) (w : Placing) (b : Banks) (u : State) (va vb x : Value) → Ready g a pushed (1 + needs) c w b u → MayFit Valued (Number t) va → ResultIs Valued w (width_in (Number t)) va u → Fits (Pointer size) vb
      → IsReadAt g a pushed (Pointer size) d c w u vb → binary c.store ops.Add (Number t) (Pointer size) va vb ≡ Ok x → Leads g a (value_form (Indexed (told size) low high) label) 2560 u (IsGiven g a m (Pointer size) c w b u x)
  last_leads size t light c w b u va vb x ready fit1 is fit2 reads e =
      let s = number_summed c.store size t va vb x e in
      let ax : ax_of u ≡ residue 65536 s.count = number_word t w s.count u ready.joins.bytes (subst (λ v. ResultIs Valued w (width_in (Number t)) v u) s.right is) in
      indexed_leads g a m label pushed needs d low high placed own pair size light c w b u vb x s.count ready ax s.moved (λ needs2 y ready2. reads needs2 b y ready2)

  apart_leads : (size other : ℕ) → (m.light ≡ true → (told size == 1) ≡ true) → (c : Scene) (w : Placing) (b : Banks) (u : State) (va vb x : Value) → Ready g a pushed (1 + needs) c w b u → MayFit Valued (Pointer size) va → ResultIs Valued w Ax va u → Fits (Pointer other) vb
      → IsReadAt g a pushed (Pointer other) d c w u vb → binary c.store ops.Sub (Pointer size) (Pointer other) va vb ≡ Ok x → Leads g a (value_form (Distance (told size) low high) label) 2560 u (IsGiven g a m (Number Int) c w b u x)
  apart_leads size other light c w b u va vb x ready fit1 is fit2 reads e =
      let s = are_apart c.store size other va vb x e in
      let small = ready.joins.bytes in
      let live = subst (IsOfLive c.store) (sym s.right) s.live in
      let here = pointer_pair g c.store w u d low high vb pair live (reads (1 + needs) b u ready) in
      let less : Ready g a pushed needs c w b u = record { joins = ready.joins; sp = ready.sp; room = omega (arith, ready.room); none_pushed = ready.none_pushed } in
      let word = apart_is c.store w w size (ax_of u) here.word va vb x (λ i q f. f) (omega (arith, small.a, small.x)) here.below (pointer_word size w va u fit1 is) here.is s in
      number_given g a m pushed (1 + needs) c w b u ready (int_div (pos s.from -ℤ pos s.to) (pos size)) x (value_form (Distance (told size) low high) label) s.result
      (distance_form g a m label pushed needs low high placed own c w b u less here.word here.pair (omega (arith, ready.room)) size (pos s.from -ℤ pos s.to) s.few light word)

pub direct_right_sums_do : DirectRightSumsDo
direct_right_sums_do g a m op f h r operands right_type form d low high label needs more_needs pushed first second left right placed own light (pointer_first size t sums) pair is before reads =
    let w = word_form_is op (told size) low high form sums is in
    rw w.form_is
    (right_read g a m op (Pointer size) (Number t) (Pointer size) needs more_needs pushed first second left (value_form (Word op low high) label) (sums_fit op (Pointer size) (Number t) (Pointer size) (PointerFirst (told size)) (pointer_first size t sums)) (IsReadAt g a pushed (Number t) d) (read_takes_none g a pushed (Number t) second d reads)
    (pointer_leads g a m label pushed more_needs d low high placed own pair op size t sums w.one) before)
direct_right_sums_do g a m op f h r operands right_type form d low high label needs more_needs pushed first second left right placed own light (pointer_last size t) pair is before reads =
    let same : form ≡ Indexed (told size) low high = same_form (Indexed (told size) low high) form is in
    rw same
    (right_read g a m ops.Add (Number t) (Pointer size) (Pointer size) needs more_needs pushed first second left (value_form (Indexed (told size) low high) label) (sums_fit ops.Add (Number t) (Pointer size) (Pointer size) (PointerLast (told size)) (pointer_last size t)) (IsReadAt g a pushed (Pointer size) d) (read_takes_none g a pushed (Pointer size) second d reads)
    (last_leads g a m label pushed more_needs d low high placed own pair size t (λ lit. ap is_light_form (sym same) ∙ light lit)) before)
direct_right_sums_do g a m op f h r operands right_type form d low high label needs more_needs pushed first second left right placed own light (pointers size other) pair is before reads =
    let same : form ≡ Distance (told size) low high = same_form (Distance (told size) low high) form is in
    rw same
    (right_read g a m ops.Sub (Pointer size) (Pointer other) (Number Int) needs more_needs pushed first second left (value_form (Distance (told size) low high) label) (sums_fit ops.Sub (Pointer size) (Pointer other) (Number Int) (Pointers (told size)) (pointers size other)) (IsReadAt g a pushed (Pointer other) d) (read_takes_none g a pushed (Pointer other) second d reads)
    (apart_leads g a m label pushed more_needs d low high placed own pair size other (λ lit. ap is_light_form (sym same) ∙ light lit)) before)
