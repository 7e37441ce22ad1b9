-- Sums with pointers by routines: the left operand waits on the software stack while the right one comes.
use Rattle.std.proofs.Common.{◌≡◌, ℕ, ◌+◌, ◌*◌, ◌%◌, ◌<◌, ◌≤◌, max, List, [], ◌∷◌, ◌++◌, ℤ, pos, ◌-ℤ◌, int_div, true, false, Some, refl, sym, ap, ◌∙◌, subst, arith}
use Rattle.std.specs.Prelude.{◌==◌, Ok}
use Rattle.c65_base.specs.declared.operators.BinaryOp.{BinaryOp}
use Rattle.c65_base.specs.declared.operators.BinaryOp.TheVariants as ops
use Rattle.c65_ints.specs.declared.types.IntType.{IntType}
use Rattle.c65_ints.specs.declared.types.IntType.TheVariants.{Int, UInt}
use Rattle.c65_ints.specs.Ranges.{residue}
use Rattle.c65_meaning.specs.Store.{Value, Whole, Shape, Number, Pointer}
use Rattle.c65_meaning.specs.Items.{Item}
use Rattle.c65_meaning.specs.Operators.{binary}
use Rattle.c65_meaning.specs.State.{Scene}
use Rattle.c65_code.specs.declared.line.Line.{Line}
use Rattle.c65_code.specs.declared.line.Line.TheVariants.{Label}
use Rattle.c65_code.specs.declared.routine.Routine.TheVariants.{Tos}
use Rattle.c65_code.specs.declared.routine.TosOp.{TosOp}
use Rattle.c65_code.specs.declared.routine.TosOp.TheVariants as tos
use Rattle.c65_code.specs.declared.routine.Width.TheVariants.{Ax}
use Rattle.c65_code.specs.LineState.{State, sp_of, ax_of, IsBytes}
use Rattle.c65_code.specs.Numbers.{tos_result, result_width}
use Rattle.c65_code.specs.Placement.{IsPlacement}
use Rattle.c65_code.specs.Rows.{number_at, primary_of}
use Rattle.c65_genwide.specs.Lines.{call}
use Rattle.c65_genwide.specs.Wide.{wide_code}
use Rattle.c65_genload.specs.Numbers.{divide_code}
use Rattle.c65_genload.specs.Conversions.{push_code, waiting}
use Rattle.c65_genshift.specs.Quick.{elements_code}
use Rattle.c65_genexpr.specs.declared.destination.Destination.TheVariants.{Registers}
use Rattle.c65_genexpr.specs.declared.operands.Operands.{Operands}
use Rattle.c65_genexpr.specs.declared.operands.Operands.TheVariants.{PointerFirst, PointerLast, Pointers}
use Rattle.c65_genexpr.specs.declared.operating.Operating.TheVariants as forms
use Rattle.c65_genexpr.specs.Places.{more}
use Rattle.c65_genexpr.specs.Operating.{operator_by}
use Rattle.c65_agree_store.specs.Stands.{At, Placing, Banks, Grows, ValueIs, IsFree}
use Rattle.c65_agree_state.specs.World.{World, Active}
use Rattle.c65_agree_state.specs.Exprs.{Ready, Valued, MayFit, ResultIs, width_in}
use Rattle.c65_agree_state.proofs.Nodes.{ready_stays}
use Rattle.c65_agree_rows.specs.Laws.{IsReadyPopped}
use Rattle.c65_agree_frame.specs.Leads.{Leads}
use Rattle.c65_agree_frame.proofs.Leads.{none_leads, leads_then, leads_as}
use Rattle.c65_agree_load.proofs.Kept.{is_on}
use Rattle.c65_agree_operate.specs.Manners.{Manner, DoesIn}
use Rattle.c65_agree_operate.proofs.Lefts.{HasWord}
use Rattle.c65_agree_operate.proofs.Manners.{left_held}
use Rattle.c65_agree_operate.proofs.Routines.{label_leads, IsPushed, push_leads, number_waits, operator_leads}
use Rattle.c65_agree_operate_bytes.specs.Laws.{IsSum}
use Rattle.c65_agree_operate_bytes.proofs.Words.{word_on}
use Rattle.c65_agree_quick.specs.Laws.{IsNow, HasTwo}
use Rattle.c65_agree_quick.proofs.Scratch.{still_now}
use Rattle.c65_agree_pointers.specs.Sums.{told, Summing, pointer_first, pointer_last, pointers, on_both}
use Rattle.c65_agree_pointers.specs.Laws.{StackedSumsDo}
use Rattle.c65_agree_pointers.proofs.Moved.{pointer_summed, number_summed, moved_is}
use Rattle.c65_agree_pointers.proofs.Apart.{are_apart, apart_is}
use Rattle.c65_agree_pointers.proofs.Elements.{told_below, scaled, divided}
use Rattle.c65_agree_pointers.proofs.Words.{pointer_word, pointer_result, number_word, sums_fit}
use Rattle.c65_agree_pointers.proofs.Waits.{IsPut, IsPopped, left_put}

-- ---- the routine

-- what waited is taken off, and AX has a word
record IsWord (g : World) (a : Active) (pushed needs : ℕ) (c : Scene) (w : Placing) (b : Banks) (n : ℕ) (t u : State) : Type 0 where
  ready : Ready g a pushed needs c w b u
  sp : sp_of u ≡ sp_of t + 2
  mem : (k : ℕ) → sp_of t + 2 ≤ k → IsFree c.store w (At k) → u.mem k ≡ t.mem k
  word : ax_of u ≡ n

abbrev routine : BinaryOp → TosOp
routine ops.Sub = tos.Sub
routine _ = tos.Add

one_call : (op : BinaryOp) → IsSum op → call (Tos (routine op) Ax) ∷ [] ≡ wide_code op UInt
one_call ops.Add o = refl
one_call ops.Sub o = refl
one_call _ o = absurd o

gives_word : (op : BinaryOp) (m n : ℕ) → IsSum op → tos_result (routine op) Ax m n ≡ Some (word_on op m n)
gives_word ops.Add m n o = refl
gives_word ops.Sub m n o = refl
gives_word _ m n o = absurd o

own_width : (op : BinaryOp) → IsSum op → result_width (routine op) Ax ≡ Ax
own_width ops.Add o = refl
own_width ops.Sub o = refl
own_width _ o = absurd o

word_below : (op : BinaryOp) (m n : ℕ) → IsSum op → word_on op m n < 65536
word_below ops.Add m n o = omega arith
word_below ops.Sub m n o = omega arith
word_below _ m n o = absurd o

module _ (g : World) (a : Active) (m : Manner) (pushed needs : ℕ) (c : Scene) (w : Placing) (b : Banks) (t : State) (placed : IsPlacement g.code g.place) (ready : Ready g a (pushed + 2) needs c w b t) (op : BinaryOp) (sums : IsSum op) where
  abbrev left : ℕ
  left = number_at Ax t.mem (sp_of t)

  -- AX has come to n since
  taken : (n : ℕ) (y : State) → HasWord g a m UInt c w b t n y → Leads g a (wide_code op UInt) 2048 y (IsWord g a pushed needs c w b (word_on op left n) t)
  taken n y h =
      let ready2 : Ready g a (pushed + 2) needs c w b y = ready_stays g a (pushed + 2) needs needs c c w w b b t y (omega arith) ready h.kept in
      let waits : number_at Ax y.mem (sp_of y) ≡ left = number_waits g a pushed needs c c w w b b t y Ax ready h.kept in
      let is : tos_result (routine op) Ax (number_at Ax y.mem (sp_of y)) (ax_of y) ≡ Some (word_on op left n) =
      ap (λ k. tos_result (routine op) Ax k (ax_of y)) waits ∙ ap (tos_result (routine op) Ax left) h.word ∙ gives_word op left n sums in
      subst (λ ls. Leads g a ls 2048 y (IsWord g a pushed needs c w b (word_on op left n) t)) (one_call op sums)
      (leads_as g a (call (Tos (routine op) Ax) ∷ []) 2048 2048 y (IsReadyPopped g a pushed needs c w b (routine op) Ax (word_on op left n) y) (IsWord g a pushed needs c w b (word_on op left n) t) (omega arith)
      (λ u p. record {
        ready = p.ready;
        sp = p.are.sp ∙ ap (λ k. k + 2) h.kept.sp;
        mem = λ k le free. p.are.mem k (omega (arith, le, h.kept.sp)) ∙ (h.kept.kept k (omega (arith, le)) free).0;
        word = subst (λ width. primary_of width u ≡ word_on op left n) (own_width op sums) p.result;
      })
      (operator_leads g a pushed needs c w b y (routine op) Ax (word_on op left n) placed ready2 is (rw (own_width op sums) (word_below op left n sums))))

  -- behind lines that bring AX there
  behind : (ls : List Line) (cost n : ℕ) → Leads g a ls cost t (HasWord g a m UInt c w b t n) → Leads g a (ls ++ wide_code op UInt) (cost + 2048) t (IsWord g a pushed needs c w b (word_on op left n) t)
  behind ls cost n lead = leads_then g a ls (wide_code op UInt) cost 2048 t (HasWord g a m UInt c w b t n) (IsWord g a pushed needs c w b (word_on op left n) t) lead (λ y h. taken n y h)

  -- or at once
  at_once : Leads g a (wide_code op UInt) 2048 t (IsWord g a pushed needs c w b (word_on op left (ax_of t)) t)
  at_once =
      let now : IsNow g a c w b Ax (ax_of t) t t = still_now g a (pushed + 2) needs c w b Ax placed (ax_of t) t ready refl in
      taken (ax_of t) t (record { kept = now.kept; word = refl; left = left_held m c t t (record { low = refl; high = refl }) })

-- a label behind it all
then_label : (g : World) (a : Active) (ls : List Line) (label cost : ℕ) (t : State) (Behind : State → Type 0) → Leads g a ls cost t Behind → Leads g a (ls ++ (Label label ∷ [])) cost t Behind
then_label g a ls label cost t Behind lead =
    leads_as g a (ls ++ (Label label ∷ [])) (cost + 0) cost t Behind Behind (omega arith) (λ u h. h) (leads_then g a ls (Label label ∷ []) cost 0 t Behind Behind lead (λ u h. label_leads g a label u Behind h))

number_below : (u : State) (at : ℕ) → IsBytes u → number_at Ax u.mem at < 65536
number_below u at bytes = omega (arith, bytes.mem at, bytes.mem (at + 1))

-- ---- the left operand begins to wait

module _ (g : World) (a : Active) (pushed needs : ℕ) (c : Scene) (w : Placing) (b : Banks) (u : State) (placed : IsPlacement g.code g.place) (ready : Ready g a pushed (1 + needs) c w b u) where
  -- a pointer
  pointer_put : (size : ℕ) (v : Value) → MayFit Valued (Pointer size) v → ResultIs Valued w Ax v u → Leads g a (push_code Ax) 256 u (IsPut g a pushed needs c w b (λ w2 x n. ValueIs w2 65536 x n) v u)
  pointer_put size v fit is =
      leads_as g a (push_code Ax) 256 256 u (IsPushed g a pushed needs c w b Ax u) (IsPut g a pushed needs c w b (λ w2 x n. ValueIs w2 65536 x n) v u) (omega arith)
      (λ y p. record { ready = p.ready; sp = p.sp; mem = λ n le free. p.mem n le; word = subst (ValueIs w 65536 v) (sym p.word) (pointer_word size w v u fit is) })
      (push_leads g a pushed needs c w b u placed ready Ax)

  -- a number of elements, as one of bytes
  elements_put : (m : Manner) (size : ℕ) (t : IntType) (v : Value) → m.light ≡ false → ResultIs Valued w (width_in (Number t)) v u
      → Leads g a (elements_code (told size) ++ push_code Ax) 2562 u (IsPut g a pushed needs c w b (λ w2 x n. (z : ℤ) → x ≡ Whole z → n ≡ (residue 65536 z * told size) % 65536) v u)
  elements_put m size t v heavy is =
      let Waits : Placing → Value → ℕ → Type 0 = λ w2 x n. (z : ℤ) → x ≡ Whole z → n ≡ (residue 65536 z * told size) % 65536 in
      let less : Ready g a pushed needs c w b u = record { joins = ready.joins; sp = ready.sp; room = omega (arith, ready.room); none_pushed = ready.none_pushed } in
      let two : HasTwo a needs c u = omega (arith, ready.room) in
      let bytes : IsBytes u = (is_on g a pushed needs c w b u placed less).stacks.calm.bytes in
      leads_then g a (elements_code (told size)) (push_code Ax) 2306 256 u (HasWord g a m UInt c w b u ((ax_of u * told size) % 65536)) (IsPut g a pushed needs c w b Waits v u)
      (scaled g a m pushed needs c w b u placed less two (told size) (told_below size) (λ lit. absurd (let clash : true ≡ false = sym lit ∙ heavy in cc)))
      (λ y h.
      let ready2 : Ready g a pushed (1 + needs) c w b y = ready_stays g a pushed (1 + needs) (1 + needs) c c w w b b u y (omega arith) ready h.kept in
      leads_as g a (push_code Ax) 256 256 y (IsPushed g a pushed needs c w b Ax y) (IsPut g a pushed needs c w b Waits v u) (omega arith)
      (λ z p. record {
        ready = p.ready;
        sp = p.sp ∙ h.kept.sp;
        mem = λ n le free. p.mem n (omega (arith, le, h.kept.sp)) ∙ (h.kept.kept n le free).0;
        word = λ q e. p.word ∙ h.word ∙ ap (λ k. (k * told size) % 65536) (number_word t w q u bytes (subst (λ x. ResultIs Valued w (width_in (Number t)) x u) e is));
      })
      (push_leads g a pushed needs c w b y placed ready2 Ax))

-- ---- by the operands

module _ (g : World) (a : Active) (m : Manner) (label needs more_needs pushed : ℕ) (first second : List Item → List Item) (left right : List Line) (placed : IsPlacement g.code g.place) (heavy : m.light ≡ false) where
  none_lit : (size : ℕ) → m.light ≡ true → (size == 1) ≡ true
  none_lit size lit = let clash : true ≡ false = sym lit ∙ heavy in absurd (cc)

  abbrev end_of : List Line → List Line
  end_of ls = ls ++ (Label label ∷ [])

  abbrev pointer_code : BinaryOp → ℕ → List Line
  pointer_code op size = elements_code (told size) ++ wide_code op UInt

  pointer_leads : (op : BinaryOp) (size : ℕ) (t : IntType) → IsSum op → (w1 : Placing) (c : Scene) (w : Placing) (b : Banks) (u : State) (va vb x : Value) → Grows w1 w → Ready g a (pushed + 2) more_needs c w b u → HasTwo a more_needs c u → MayFit Valued (Pointer size) va → ValueIs w1 65536 va (number_at Ax u.mem (sp_of u))
      → MayFit Valued (Number t) vb → ResultIs Valued w (width_in (Number t)) vb u → binary c.store op (Pointer size) (Number t) va vb ≡ Ok x → Leads g a (end_of (pointer_code op size)) 4354 u (IsPopped g a pushed more_needs c w b (Pointer size) x u)
  pointer_leads op size t sums w1 c w b u va vb x grows ready two fit1 waits fit2 is e =
      let s = pointer_summed c.store op size t va vb x sums e in
      let bytes : IsBytes u = (is_on g a (pushed + 2) more_needs c w b u placed ready).stacks.calm.bytes in
      let ax : ax_of u ≡ residue 65536 s.count = number_word t w s.count u bytes (subst (λ v. ResultIs Valued w (width_in (Number t)) v u) s.right is) in
      let left_word : ℕ = number_at Ax u.mem (sp_of u) in
      let n : ℕ = (ax_of u * told size) % 65536 in
      let value : ValueIs w 65536 x (word_on op left_word n) =
      subst (λ k. ValueIs w 65536 x (word_on op left_word ((k * told size) % 65536))) (sym ax) (moved_is c.store w1 w u.mem b op size left_word va x s.count ready.joins.stands grows sums (number_below u (sp_of u) bytes) waits s.moved) in
      then_label g a (pointer_code op size) label 4354 u (IsPopped g a pushed more_needs c w b (Pointer size) x u)
      (leads_as g a (pointer_code op size) 4354 4354 u (IsWord g a pushed more_needs c w b (word_on op left_word n) u) (IsPopped g a pushed more_needs c w b (Pointer size) x u) (omega arith)
      (λ y h. record { ready = h.ready; sp = h.sp; mem = h.mem; result = pointer_result size w x y (sums_fit op (Pointer size) (Number t) (Pointer size) (PointerFirst (told size)) (pointer_first size t sums) c va vb x fit1 e) (subst (ValueIs w 65536 x) (sym h.word) value) })
      (behind g a m pushed more_needs c w b u placed ready op sums (elements_code (told size)) 2306 n (scaled g a m (pushed + 2) more_needs c w b u placed ready two (told size) (told_below size) (none_lit (told size)))))

  pointer_does : (op : BinaryOp) (size : ℕ) (t right_type : IntType) → IsSum op → DoesIn g a m Valued (Pointer size) first needs pushed left → DoesIn g a m Valued (Number t) second more_needs (more pushed (waiting Ax)) right
      → DoesIn g a m Valued (Pointer size) (on_both op (Pointer size) (Number t) first second) (max needs (1 + more_needs)) pushed (operator_by Registers forms.Stacked op (PointerFirst (told size)) right_type label left right)
  pointer_does op size t right_type sums =
      left_put g a m op (Pointer size) (Number t) (Pointer size) needs more_needs pushed 256 4354 first second left (push_code Ax) right (end_of (pointer_code op size)) placed heavy (omega arith) (omega arith)
      (sums_fit op (Pointer size) (Number t) (Pointer size) (PointerFirst (told size)) (pointer_first size t sums)) (λ w v n. ValueIs w 65536 v n)
      (λ c w b u v ready fit is. pointer_put g a pushed more_needs c w b u placed ready size v fit is)
      (pointer_leads op size t sums)

  last_leads : (size : ℕ) (t : IntType) (w1 : Placing) (c : Scene) (w : Placing) (b : Banks) (u : State) (va vb x : Value) → Grows w1 w → Ready g a (pushed + 2) more_needs c w b u → HasTwo a more_needs c u → MayFit Valued (Number t) va
      → ((z : ℤ) → va ≡ Whole z → number_at Ax u.mem (sp_of u) ≡ (residue 65536 z * told size) % 65536)
      → MayFit Valued (Pointer size) vb → ResultIs Valued w Ax vb u → binary c.store ops.Add (Number t) (Pointer size) va vb ≡ Ok x → Leads g a (end_of (wide_code ops.Add UInt)) 2048 u (IsPopped g a pushed more_needs c w b (Pointer size) x u)
  last_leads size t w1 c w b u va vb x grows ready two fit1 waits fit2 is e =
      let s = number_summed c.store size t va vb x e in
      let bytes : IsBytes u = (is_on g a (pushed + 2) more_needs c w b u placed ready).stacks.calm.bytes in
      let n : ℕ = (residue 65536 s.count * told size) % 65536 in
      let moved : ValueIs w 65536 x ((ax_of u + n) % 65536) = moved_is c.store w w u.mem b ops.Add size (ax_of u) vb x s.count ready.joins.stands (λ k q f. f) tt (omega (arith, bytes.a, bytes.x)) (pointer_word size w vb u fit2 is) s.moved in
      let turned : (ax_of u + n) % 65536 ≡ (number_at Ax u.mem (sp_of u) + ax_of u) % 65536 = ap (λ k. (ax_of u + k) % 65536) (sym (waits s.count s.right)) ∙ omega arith in
      then_label g a (wide_code ops.Add UInt) label 2048 u (IsPopped g a pushed more_needs c w b (Pointer size) x u)
      (leads_as g a (wide_code ops.Add UInt) 2048 2048 u (IsWord g a pushed more_needs c w b ((number_at Ax u.mem (sp_of u) + ax_of u) % 65536) u) (IsPopped g a pushed more_needs c w b (Pointer size) x u) (omega arith)
      (λ y h. record { ready = h.ready; sp = h.sp; mem = h.mem; result = pointer_result size w x y (sums_fit ops.Add (Number t) (Pointer size) (Pointer size) (PointerLast (told size)) (pointer_last size t) c va vb x fit1 e) (subst (ValueIs w 65536 x) (turned ∙ sym h.word) moved) })
      (at_once g a m pushed more_needs c w b u placed ready ops.Add tt))

  last_does : (size : ℕ) (t right_type : IntType) → DoesIn g a m Valued (Number t) first needs pushed left → DoesIn g a m Valued (Pointer size) second more_needs (more pushed (waiting Ax)) right
      → DoesIn g a m Valued (Pointer size) (on_both ops.Add (Number t) (Pointer size) first second) (max needs (1 + more_needs)) pushed (operator_by Registers forms.Stacked ops.Add (PointerLast (told size)) right_type label left right)
  last_does size t right_type =
      left_put g a m ops.Add (Number t) (Pointer size) (Pointer size) needs more_needs pushed 2562 2048 first second left (elements_code (told size) ++ push_code Ax) right (end_of (wide_code ops.Add UInt)) placed heavy (omega arith) (omega arith)
      (sums_fit ops.Add (Number t) (Pointer size) (Pointer size) (PointerLast (told size)) (pointer_last size t)) (λ w v n. (z : ℤ) → v ≡ Whole z → n ≡ (residue 65536 z * told size) % 65536)
      (λ c w b u v ready fit is. elements_put g a pushed more_needs c w b u placed ready m size t v heavy is)
      (last_leads size t)

  abbrev apart_code : ℕ → List Line
  apart_code size = wide_code ops.Sub UInt ++ divide_code (told size)

  apart_leads : (size other : ℕ) (w1 : Placing) (c : Scene) (w : Placing) (b : Banks) (u : State) (va vb x : Value) → Grows w1 w → Ready g a (pushed + 2) more_needs c w b u → HasTwo a more_needs c u → MayFit Valued (Pointer size) va → ValueIs w1 65536 va (number_at Ax u.mem (sp_of u))
      → MayFit Valued (Pointer other) vb → ResultIs Valued w Ax vb u → binary c.store ops.Sub (Pointer size) (Pointer other) va vb ≡ Ok x → Leads g a (end_of (apart_code size)) 4354 u (IsPopped g a pushed more_needs c w b (Number Int) x u)
  apart_leads size other w1 c w b u va vb x grows ready two fit1 waits fit2 is e =
      let s = are_apart c.store size other va vb x e in
      let bytes : IsBytes u = (is_on g a (pushed + 2) more_needs c w b u placed ready).stacks.calm.bytes in
      let d : ℤ = pos s.from -ℤ pos s.to in
      let n : ℕ = word_on ops.Sub (number_at Ax u.mem (sp_of u)) (ax_of u) in
      let is_d : n ≡ residue 65536 d = apart_is c.store w1 w size (number_at Ax u.mem (sp_of u)) (ax_of u) va vb x grows (number_below u (sp_of u) bytes) (omega (arith, bytes.a, bytes.x)) waits (pointer_word other w vb u fit2 is) s in
      let Result : State → Type 0 = IsPopped g a pushed more_needs c w b (Number Int) x u in
      then_label g a (apart_code size) label 4354 u Result
      (leads_then g a (wide_code ops.Sub UInt) (divide_code (told size)) 2048 2306 u (IsWord g a pushed more_needs c w b n u) Result
      (at_once g a m pushed more_needs c w b u placed ready ops.Sub tt) (λ y h.
      let two2 : HasTwo a more_needs c y = omega (arith, two, h.sp) in
      leads_as g a (divide_code (told size)) 2306 2306 y (HasWord g a m UInt c w b y (residue 65536 (int_div d (pos size)))) Result (omega arith)
      (λ z k. record {
        ready = ready_stays g a pushed more_needs more_needs c c w w b b y z (omega arith) h.ready k.kept;
        sp = k.kept.sp ∙ h.sp;
        mem = λ i le free. (k.kept.kept i (omega (arith, le, h.sp)) free).0 ∙ h.mem i le free;
        result = subst (λ v. ResultIs Valued w Ax v z) (sym s.result) k.word;
      })
      (divided g a m pushed more_needs c w b y placed h.ready two2 size d s.few (h.word ∙ is_d) (none_lit (told size)))))

  apart_does : (size other : ℕ) (right_type : IntType) → DoesIn g a m Valued (Pointer size) first needs pushed left → DoesIn g a m Valued (Pointer other) second more_needs (more pushed (waiting Ax)) right
      → DoesIn g a m Valued (Number Int) (on_both ops.Sub (Pointer size) (Pointer other) first second) (max needs (1 + more_needs)) pushed (operator_by Registers forms.Stacked ops.Sub (Pointers (told size)) right_type label left right)
  apart_does size other right_type =
      left_put g a m ops.Sub (Pointer size) (Pointer other) (Number Int) needs more_needs pushed 256 4354 first second left (push_code Ax) right (end_of (apart_code size)) placed heavy (omega arith) (omega arith)
      (sums_fit ops.Sub (Pointer size) (Pointer other) (Number Int) (Pointers (told size)) (pointers size other)) (λ w v n. ValueIs w 65536 v n)
      (λ c w b u v ready fit is. pointer_put g a pushed more_needs c w b u placed ready size v fit is)
      (apart_leads size other)

pub stacked_sums_do : StackedSumsDo
stacked_sums_do g a m op f h r operands right_type label needs more_needs pushed first second left right placed heavy (pointer_first size t sums) = pointer_does g a m label needs more_needs pushed first second left right placed heavy op size t right_type sums
stacked_sums_do g a m op f h r operands right_type label needs more_needs pushed first second left right placed heavy (pointer_last size t) = last_does g a m label needs more_needs pushed first second left right placed heavy size t right_type
stacked_sums_do g a m op f h r operands right_type label needs more_needs pushed first second left right placed heavy (pointers size other) = apart_does g a m label needs more_needs pushed first second left right placed heavy size other right_type
