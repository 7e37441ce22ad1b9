-- Sums with pointers whose left operand waits in ptr2.
use Rattle.std.proofs.Common.{◌≡◌, ℕ, ◌+◌, ◌<◌, ◌≤◌, max, List, ◌∷◌, ◌++◌, ℤ, pos, ◌-ℤ◌, int_div, Bool, true, false, Option, Some, None, refl, sym, ap, ◌∙◌, subst, arith}
use Rattle.std.specs.Prelude.{◌==◌, if◌then◌else◌, Ok}
use Rattle.std.proofs.lemmas.Bool.{eqb-true}
use Rattle.c65_base.specs.declared.operators.BinaryOp.{BinaryOp}
use Rattle.c65_base.specs.declared.operators.BinaryOp.TheVariants as ops
use Rattle.c65_ints.specs.declared.types.IntType.{IntType}
use Rattle.c65_ints.specs.declared.types.IntType.TheVariants.{Int, UInt}
use Rattle.c65_ints.specs.Ranges.{residue}
use Rattle.c65_meaning.specs.Store.{Value, Number, Pointer}
use Rattle.c65_meaning.specs.Items.{Item}
use Rattle.c65_meaning.specs.Operators.{binary}
use Rattle.c65_meaning.specs.State.{Scene}
use Rattle.c65_code.specs.declared.line.Line.{Line}
use Rattle.c65_code.specs.declared.routine.Width.TheVariants.{Ax}
use Rattle.c65_code.specs.LineState.{State, ax_of}
use Rattle.c65_code.specs.Placement.{IsPlacement}
use Rattle.c65_genexpr.specs.declared.operands.Operands.TheVariants.{PointerFirst, Pointers}
use Rattle.c65_genexpr.specs.declared.operating.Form.{Form}
use Rattle.c65_genexpr.specs.declared.operating.Form.TheVariants.{Word, Under, DistanceUnder}
use Rattle.c65_genexpr.specs.Held.{held_low, held_high, keep_code}
use Rattle.c65_genexpr.specs.Operating.{held_elements, value_form}
use Rattle.c65_agree_store.specs.Stands.{Placing, Banks, Grows}
use Rattle.c65_agree_state.specs.World.{World, Active, lines_of, IsPlaced}
use Rattle.c65_agree_state.specs.Exprs.{Ready, Valued, MayFit, ResultIs, width_in}
use Rattle.c65_agree_frame.specs.Leads.{Leads}
use Rattle.c65_agree_operate.specs.Manners.{Manner, DoesIn}
use Rattle.c65_agree_operate.proofs.Behind.{IsGiven}
use Rattle.c65_agree_operate.proofs.Lefts.{HasWord}
use Rattle.c65_agree_operate_bytes.specs.Laws.{IsSum, IsAside}
use Rattle.c65_agree_operate_bytes.proofs.Words.{word_on}
use Rattle.c65_agree_operate_bytes.proofs.Rights.{HasPair}
use Rattle.c65_agree_pointers.specs.Sums.{told, Summing, pointer_first, pointer_last, pointers, on_both}
use Rattle.c65_agree_pointers.specs.Laws.{HeldSumsDo}
use Rattle.c65_agree_pointers.proofs.Moved.{pointer_summed}
use Rattle.c65_agree_pointers.proofs.Apart.{are_apart, apart_is}
use Rattle.c65_agree_pointers.proofs.Words.{pointer_word, number_word, sums_fit}
use Rattle.c65_agree_pointers.proofs.Given.{moved_given, number_given, one_byte}
use Rattle.c65_agree_pointers.proofs.Forms.{word_form, under_form, distance_under_form}
use Rattle.c65_agree_pointers.proofs.Indexed.{turn}
use Rattle.c65_agree_pointers.proofs.Waits.{left_held_there}

-- that of elements of one byte
abbrev pub held_by : BinaryOp → Form
held_by ops.Sub = Under held_low held_high
held_by _ = Word ops.Add held_low held_high

pub record IsHeldForm (op : BinaryOp) (size : ℕ) (form : Form) : Type 0 where
  pub one : size ≡ 1
  pub form_is : form ≡ held_by op

held_is : (op : BinaryOp) (form : Form) → IsSum op → held_elements op ≡ Some form → form ≡ held_by op
held_is ops.Add form o h = cc
held_is ops.Sub form o h = cc
held_is _ form o h = absurd o

pub held_form_is : (op : BinaryOp) (size : ℕ) (form : Form) → IsSum op → (b : Bool) → (size == 1) ≡ b → (if b then held_elements op else None) ≡ Some form → IsHeldForm op size form
held_form_is op size form o true e h = record { one = eqb-true size 1 e; form_is = held_is op form o h }
held_form_is op size form o false e h = absurd (cc)

same_form : (x y : Form) → Some x ≡ Some y → y ≡ x
same_form x y e = cc

low_aside : IsAside held_low
low_aside = ((λ h. omega (arith, h)), (λ h. omega (arith, h)))

high_aside : IsAside held_high
high_aside = ((λ h. omega (arith, h)), (λ h. omega (arith, h)))

module _ (g : World) (a : Active) (m : Manner) (label needs more_needs pushed : ℕ) (first second : List Item → List Item) (left right : List Line) (placed : IsPlacement g.code g.place) (own : IsPlaced (lines_of g a)) (heavy : m.light ≡ false) where
  abbrev lit : Manner
  lit = record m { light = true }

  word_leads : (op : BinaryOp) → IsSum op → (c : Scene) (w : Placing) (b : Banks) (u : State) → Ready g a pushed (1 + more_needs) c w b u → (n : ℕ) → HasPair g u held_low held_high n → Leads g a (value_form (held_by op) label) 2560 u (HasWord g a m UInt c w b u (word_on op n (ax_of u)))
  word_leads ops.Add o c w b u ready n pair = subst (λ k. Leads g a (value_form (Word ops.Add held_low held_high) label) 2560 u (HasWord g a m UInt c w b u k)) (turn (ax_of u) n) (word_form g a m label pushed (1 + more_needs) held_low held_high placed own c w b u ready n pair ops.Add refl)
  word_leads ops.Sub o c w b u ready n pair = under_form g a m label pushed (1 + more_needs) held_low held_high placed own c w b u ready n pair low_aside high_aside
  word_leads _ o c w b u ready n pair = absurd o

  pointer_leads : (op : BinaryOp) (size : ℕ) (t : IntType) → IsSum op → told size ≡ 1 → (c1 : Scene) (w1 : Placing) (s1 : State) (c : Scene) (w : Placing) (b : Banks) (u : State) (va vb x : Value) → Grows w1 w → ax_of s1 < 65536 → Ready g a pushed (1 + more_needs) c w b u → MayFit Valued (Pointer size) va → ResultIs Valued w1 Ax va s1
      → HasPair g u held_low held_high (ax_of s1) → MayFit Valued (Number t) vb → ResultIs Valued w (width_in (Number t)) vb u → binary c.store op (Pointer size) (Number t) va vb ≡ Ok x → Leads g a (value_form (held_by op) label) 2560 u (IsGiven g a m (Pointer size) c w b u x)
  pointer_leads op size t sums one c1 w1 s1 c w b u va vb x grows below ready fit1 is1 pair fit2 is e =
      let s = pointer_summed c.store op size t va vb x sums e in
      let ax : ax_of u ≡ residue 65536 s.count = number_word t w s.count u ready.joins.bytes (subst (λ v. ResultIs Valued w (width_in (Number t)) v u) s.right is) in
      moved_given g a m pushed (1 + more_needs) c w b u ready op size (ax_of s1) (word_on op (ax_of s1) (ax_of u)) w1 va x s.count (value_form (held_by op) label) sums grows below (pointer_word size w1 va s1 fit1 is1) s.moved (ap (word_on op (ax_of s1)) (ax ∙ one_byte s.count size one))
      (word_leads op sums c w b u ready (ax_of s1) pair)

  pointer_does : (op : BinaryOp) (size : ℕ) (t : IntType) → IsSum op → told size ≡ 1 → DoesIn g a m Valued (Pointer size) first needs pushed left → DoesIn g a lit Valued (Number t) second more_needs pushed right
      → DoesIn g a m Valued (Pointer size) (on_both op (Pointer size) (Number t) first second) (max needs (1 + more_needs)) pushed (left ++ (keep_code ++ (right ++ value_form (held_by op) label)))
  pointer_does op size t sums one =
      left_held_there g a m op (Pointer size) (Number t) (Pointer size) needs more_needs pushed first second left right (value_form (held_by op) label) placed heavy (sums_fit op (Pointer size) (Number t) (Pointer size) (PointerFirst (told size)) (pointer_first size t sums)) refl
      (pointer_leads op size t sums one)

  apart_leads : (size other : ℕ) → (c1 : Scene) (w1 : Placing) (s1 : State) (c : Scene) (w : Placing) (b : Banks) (u : State) (va vb x : Value) → Grows w1 w → ax_of s1 < 65536 → Ready g a pushed (1 + more_needs) c w b u → MayFit Valued (Pointer size) va → ResultIs Valued w1 Ax va s1
      → HasPair g u held_low held_high (ax_of s1) → MayFit Valued (Pointer other) vb → ResultIs Valued w Ax vb u → binary c.store ops.Sub (Pointer size) (Pointer other) va vb ≡ Ok x → Leads g a (value_form (DistanceUnder (told size) held_low held_high) label) 2560 u (IsGiven g a m (Number Int) c w b u x)
  apart_leads size other c1 w1 s1 c w b u va vb x grows below ready fit1 is1 pair fit2 is e =
      let s = are_apart c.store size other va vb x e in
      let small = ready.joins.bytes in
      let less : Ready g a pushed more_needs c w b u = record { joins = ready.joins; sp = ready.sp; room = omega (arith, ready.room); none_pushed = ready.none_pushed } in
      let word = apart_is c.store w1 w size (ax_of s1) (ax_of u) va vb x grows below (omega (arith, small.a, small.x)) (pointer_word size w1 va s1 fit1 is1) (pointer_word other w vb u fit2 is) s in
      number_given g a m pushed (1 + more_needs) c w b u ready (int_div (pos s.from -ℤ pos s.to) (pos size)) x (value_form (DistanceUnder (told size) held_low held_high) label) s.result
      (distance_under_form g a m label pushed more_needs held_low held_high placed own c w b u less (ax_of s1) pair (omega (arith, ready.room)) size (pos s.from -ℤ pos s.to) s.few (λ lighted. let clash : true ≡ false = sym lighted ∙ heavy in absurd (cc)) low_aside high_aside word)

  apart_does : (size other : ℕ) → DoesIn g a m Valued (Pointer size) first needs pushed left → DoesIn g a lit Valued (Pointer other) second more_needs pushed right
      → DoesIn g a m Valued (Number Int) (on_both ops.Sub (Pointer size) (Pointer other) first second) (max needs (1 + more_needs)) pushed (left ++ (keep_code ++ (right ++ value_form (DistanceUnder (told size) held_low held_high) label)))
  apart_does size other =
      left_held_there g a m ops.Sub (Pointer size) (Pointer other) (Number Int) needs more_needs pushed first second left right (value_form (DistanceUnder (told size) held_low held_high) label) placed heavy (sums_fit ops.Sub (Pointer size) (Pointer other) (Number Int) (Pointers (told size)) (pointers size other)) refl
      (apart_leads size other)

pub held_sums_do : HeldSumsDo
held_sums_do g a m op f h r operands right_type form label needs more_needs pushed first second left right placed own heavy (pointer_first size t sums) is =
    let i = held_form_is op (told size) form sums (told size == 1) refl is in
    rw i.form_is (pointer_does g a m label needs more_needs pushed first second left right placed own heavy op size t sums i.one)
held_sums_do g a m op f h r operands right_type form label needs more_needs pushed first second left right placed own heavy (pointer_last size t) is = absurd (cc)
held_sums_do g a m op f h r operands right_type form label needs more_needs pushed first second left right placed own heavy (pointers size other) is =
    let same : form ≡ DistanceUnder (told size) held_low held_high = same_form (DistanceUnder (told size) held_low held_high) form is in
    rw same (apart_does g a m label needs more_needs pushed first second left right placed own heavy size other)
