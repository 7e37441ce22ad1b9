-- Sums with pointers whose left operand is read behind the lines of the right one.
use Rattle.std.proofs.Common.{◌≡◌, ℕ, ◌+◌, ◌<◌, ◌≤◌, max, List, ◌∷◌, ◌++◌, ℤ, pos, ◌-ℤ◌, int_div, Bool, true, Some, None, refl, sym, ap, ◌∙◌, subst, arith}
use Rattle.std.specs.Prelude.{◌==◌, Ok}
use Rattle.c65_base.specs.declared.operators.BinaryOp.{BinaryOp}
use Rattle.c65_base.specs.declared.operators.BinaryOp.TheVariants as ops
use Rattle.c65_ints.specs.declared.types.IntType.{IntType}
use Rattle.c65_ints.specs.declared.types.IntType.TheVariants.{Int}
use Rattle.c65_ints.specs.Ranges.{residue}
use Rattle.c65_meaning.specs.Store.{Value, Number, Pointer}
use Rattle.c65_meaning.specs.Items.{Item}
use Rattle.c65_meaning.specs.Fits.{Fits}
use Rattle.c65_meaning.specs.Operators.{binary}
use Rattle.c65_meaning.specs.State.{Scene}
use Rattle.c65_code.specs.declared.line.Line.{Line}
use Rattle.c65_code.specs.declared.routine.Width.TheVariants.{Ax}
use Rattle.c65_code.specs.LineState.{State, ax_of}
use Rattle.c65_code.specs.Placement.{IsPlacement}
use Rattle.c65_gendirect.specs.declared.bytes.OperandByte.{OperandByte}
use Rattle.c65_gendirect.specs.declared.direct.Direct.{Direct}
use Rattle.c65_genexpr.specs.declared.operands.Operands.TheVariants.{PointerFirst, Pointers}
use Rattle.c65_genexpr.specs.declared.operating.Form.{Form}
use Rattle.c65_genexpr.specs.declared.operating.Form.TheVariants.{Indexed, DistanceUnder}
use Rattle.c65_genexpr.specs.Operating.{left_form, is_light_form, word_in, value_form}
use Rattle.c65_agree_store.specs.Stands.{Placing, Banks}
use Rattle.c65_agree_state.specs.World.{World, Active, lines_of, IsPlaced}
use Rattle.c65_agree_state.specs.Exprs.{Ready, Valued, MayFit, ResultIs, width_in}
use Rattle.c65_agree_frame.specs.Leads.{Leads}
use Rattle.c65_agree_direct.specs.Operands.{IsOfLive, HasBytes}
use Rattle.c65_agree_operate.specs.Manners.{Manner, DoesIn}
use Rattle.c65_agree_operate.proofs.Behind.{IsGiven}
use Rattle.c65_agree_operate_bytes.specs.Laws.{IsSum, IsAside, IsReadBehind}
use Rattle.c65_agree_pointers.specs.Sums.{told, Summing, pointer_first, pointer_last, pointers, on_both}
use Rattle.c65_agree_pointers.specs.Laws.{DirectLeftSumsDo}
use Rattle.c65_agree_pointers.proofs.Moved.{pointer_summed}
use Rattle.c65_agree_pointers.proofs.Apart.{are_apart, apart_is}
use Rattle.c65_agree_pointers.proofs.Words.{pointer_word, number_word, pointer_pair, sums_fit}
use Rattle.c65_agree_pointers.proofs.Given.{number_given}
use Rattle.c65_agree_pointers.proofs.Forms.{distance_under_form}
use Rattle.c65_agree_pointers.proofs.Indexed.{indexed_leads}
use Rattle.c65_agree_pointers.proofs.Walks.{left_read}

pub record IsIndexed (op : BinaryOp) (size : ℕ) (low high : OperandByte) (form : Form) : Type 0 where
  pub adds : op ≡ ops.Add
  pub form_is : form ≡ Indexed size low high

pub indexed_is : (op : BinaryOp) (size : ℕ) (low high : OperandByte) (form : Form) → IsSum op → left_form op (PointerFirst size) low high ≡ Some form → IsIndexed op size low high form
indexed_is ops.Add size low high form o h = record { adds = refl; form_is = cc }
indexed_is ops.Sub size low high form o h = absurd (cc)
indexed_is _ size low high form o h = absurd o

same_form : (x y : Form) → Some x ≡ Some y → y ≡ x
same_form x y e = cc

module _ (g : World) (a : Active) (m : Manner) (pure : Bool) (label needs more_needs pushed : ℕ) (d : Direct) (low high : OperandByte) (first second : List Item → List Item) (right : List Line) (placed : IsPlacement g.code g.place) (own : IsPlaced (lines_of g a)) (pair : word_in d ≡ Some (low, high)) (asked : m.pure ≡ true → pure ≡ true) where
  abbrev right_manner : Manner
  right_manner = record m { pure = pure }

  pointer_leads : (size : ℕ) (t : IntType) → (m.light ≡ true → (told size == 1) ≡ true) → (c : Scene) (w : Placing) (b : Banks) (u : State) (va vb x : Value) → Ready g a pushed (1 + more_needs) c w b u → Fits (Pointer size) va → ((needs2 : ℕ) (y : State) → Ready g a pushed needs2 c w b y → HasBytes g c.store w y Ax d va)
      → MayFit Valued (Number t) vb → ResultIs Valued w (width_in (Number t)) vb u → binary c.store ops.Add (Pointer size) (Number t) va vb ≡ Ok x → Leads g a (value_form (Indexed (told size) low high) label) 2560 u (IsGiven g a m (Pointer size) c w b u x)
  pointer_leads size t light c w b u va vb x ready fit1 reads fit2 is e =
      let s = pointer_summed c.store ops.Add size t va vb x tt e in
      let ax : ax_of u ≡ residue 65536 s.count = number_word t w s.count u ready.joins.bytes (subst (λ v. ResultIs Valued w (width_in (Number t)) v u) s.right is) in
      indexed_leads g a m label pushed more_needs d low high placed own pair size light c w b u va x s.count ready ax s.moved reads

  pointer_does : (size : ℕ) (t : IntType) → (m.light ≡ true → (told size == 1) ≡ true) → IsReadBehind g a pure pushed (Pointer size) first d → DoesIn g a right_manner Valued (Number t) second more_needs pushed right
      → DoesIn g a m Valued (Pointer size) (on_both ops.Add (Pointer size) (Number t) first second) (max needs (1 + more_needs)) pushed (right ++ value_form (Indexed (told size) low high) label)
  pointer_does size t light reads =
      left_read g a m pure ops.Add (Pointer size) (Number t) (Pointer size) needs more_needs pushed d first second right (value_form (Indexed (told size) low high) label) (sums_fit ops.Add (Pointer size) (Number t) (Pointer size) (PointerFirst (told size)) (pointer_first size t tt)) tt asked reads
      (pointer_leads size t light)

  apart_leads : (size other : ℕ) → IsAside low → IsAside high → (m.light ≡ true → (told size == 1) ≡ true) → (c : Scene) (w : Placing) (b : Banks) (u : State) (va vb x : Value) → Ready g a pushed (1 + more_needs) c w b u → Fits (Pointer size) va → ((needs2 : ℕ) (y : State) → Ready g a pushed needs2 c w b y → HasBytes g c.store w y Ax d va)
      → MayFit Valued (Pointer other) vb → ResultIs Valued w Ax vb u → binary c.store ops.Sub (Pointer size) (Pointer other) va vb ≡ Ok x → Leads g a (value_form (DistanceUnder (told size) low high) label) 2560 u (IsGiven g a m (Number Int) c w b u x)
  apart_leads size other apart apart2 light c w b u va vb x ready fit1 reads fit2 is e =
      let s = are_apart c.store size other va vb x e in
      let small = ready.joins.bytes in
      let live : IsOfLive c.store va = subst (IsOfLive c.store) (sym s.left) s.live in
      let here = pointer_pair g c.store w u d low high va pair live (reads (1 + more_needs) u ready) in
      let less : Ready g a pushed more_needs c w b u = record { joins = ready.joins; sp = ready.sp; room = omega (arith, ready.room); none_pushed = ready.none_pushed } in
      let word = apart_is c.store w w size here.word (ax_of u) va vb x (λ i q f. f) here.below (omega (arith, small.a, small.x)) here.is (pointer_word other w vb u fit2 is) s in
      number_given g a m pushed (1 + more_needs) c w b u ready (int_div (pos s.from -ℤ pos s.to) (pos size)) x (value_form (DistanceUnder (told size) low high) label) s.result
      (distance_under_form g a m label pushed more_needs low high placed own c w b u less here.word here.pair (omega (arith, ready.room)) size (pos s.from -ℤ pos s.to) s.few light apart apart2 word)

  apart_does : (size other : ℕ) → IsAside low → IsAside high → (m.light ≡ true → (told size == 1) ≡ true) → IsReadBehind g a pure pushed (Pointer size) first d → DoesIn g a right_manner Valued (Pointer other) second more_needs pushed right
      → DoesIn g a m Valued (Number Int) (on_both ops.Sub (Pointer size) (Pointer other) first second) (max needs (1 + more_needs)) pushed (right ++ value_form (DistanceUnder (told size) low high) label)
  apart_does size other apart apart2 light reads =
      left_read g a m pure ops.Sub (Pointer size) (Pointer other) (Number Int) needs more_needs pushed d first second right (value_form (DistanceUnder (told size) low high) label) (sums_fit ops.Sub (Pointer size) (Pointer other) (Number Int) (Pointers (told size)) (pointers size other)) tt asked reads
      (apart_leads size other apart apart2 light)

pub direct_left_sums_do : DirectLeftSumsDo
direct_left_sums_do g a m pure op f h r operands right_type form d low high label needs more_needs pushed first second left right placed own light (pointer_first size t sums) pair apart apart2 is asked reads =
    let i = indexed_is op (told size) low high form sums is in
    rw (i.adds, i.form_is) (pointer_does g a m pure label needs more_needs pushed d low high first second right placed own pair asked size t (λ lit. ap is_light_form (sym i.form_is) ∙ light lit) reads)
direct_left_sums_do g a m pure op f h r operands right_type form d low high label needs more_needs pushed first second left right placed own light (pointer_last size t) pair apart apart2 is asked reads = absurd (cc)
direct_left_sums_do g a m pure op f h r operands right_type form d low high label needs more_needs pushed first second left right placed own light (pointers size other) pair apart apart2 is asked reads =
    let same : form ≡ DistanceUnder (told size) low high = same_form (DistanceUnder (told size) low high) form is in
    rw same (apart_does g a m pure label needs more_needs pushed d low high first second right placed own pair asked size other apart apart2 (λ lit. ap is_light_form (sym same) ∙ light lit) reads)
