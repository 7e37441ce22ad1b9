-- Sums whose word goes to ptr1, by the shapes of their operands.
use Rattle.std.proofs.Common.{◌≡◌, ℕ, ◌+◌, ◌*◌, ◌%◌, ◌<◌, List, ℤ, pos, ◌*ℤ◌, Some, refl, sym, ap, ◌∙◌, subst, arith}
use Rattle.std.specs.Prelude.{Ok, ◌==◌}
use Rattle.c65_base.specs.declared.operators.BinaryOp.TheVariants as ops
use Rattle.c65_ints.specs.declared.types.IntType.{IntType}
use Rattle.c65_ints.specs.Ranges.{residue}
use Rattle.c65_meaning.specs.Store.{Value, Number, Pointer}
use Rattle.c65_meaning.specs.Fits.{Fits}
use Rattle.c65_meaning.specs.Operators.{binary}
use Rattle.c65_meaning.specs.State.{Scene}
use Rattle.c65_code.specs.declared.line.Line.{Line}
use Rattle.c65_code.specs.declared.routine.Width.TheVariants.{Ax}
use Rattle.c65_code.specs.LineState.{State, ax_of}
use Rattle.c65_code.specs.Placement.{IsPlacement}
use Rattle.c65_gendirect.specs.declared.bytes.OperandByte.{OperandByte}
use Rattle.c65_gendirect.specs.declared.direct.Direct.{Direct}
use Rattle.c65_genexpr.specs.declared.destination.Destination.TheVariants as destinations
use Rattle.c65_genexpr.specs.declared.operating.Form.TheVariants.{Word, Indexed}
use Rattle.c65_genexpr.specs.Held.{held_low, held_high}
use Rattle.c65_genexpr.specs.Operating.{word_in, pointed_form}
use Rattle.c65_agree_store.specs.Stands.{Placing, Banks, Grows, ValueIs}
use Rattle.c65_agree_state.specs.World.{World, Active}
use Rattle.c65_agree_state.specs.Exprs.{Ready, Valued, MayFit, ResultIs, width_in}
use Rattle.c65_agree_frame.specs.Leads.{Leads}
use Rattle.c65_agree_frame.proofs.Leads.{leads_as}
use Rattle.c65_agree_direct.specs.Operands.{IsOfLive, HasBytes}
use Rattle.c65_agree_operate_bytes.proofs.Words.{word_on}
use Rattle.c65_agree_operate_bytes.proofs.Rights.{HasPair}
use Rattle.c65_agree_quick.specs.Laws.{HasTwo}
use Rattle.c65_agree_pointers.specs.Sums.{told, pointer_first, pointer_last, pointers}
use Rattle.c65_agree_pointers.proofs.Elements.{told_below}
use Rattle.c65_agree_pointers.proofs.Given.{one_byte}
use Rattle.c65_agree_pointers.proofs.Held.{held_form_is}
use Rattle.c65_agree_pointers.proofs.Indexed.{turn}
use Rattle.c65_agree_pointers.proofs.Lefts.{indexed_is}
use Rattle.c65_agree_pointers.proofs.Moved.{moved_is, bytes_by, pointer_summed, number_summed}
use Rattle.c65_agree_store.proofs.Moved.{IsMoved}
use Rattle.c65_agree_pointers.proofs.Rights.{word_form_is, same_form}
use Rattle.c65_agree_pointers.proofs.Walks.{IsReadAt}
use Rattle.c65_agree_pointers.proofs.Words.{IsRead, pointer_word, number_word, number_pair, pointer_pair, pointer_result, same_word}
use Rattle.c65_agree_structures.proofs.Pointers.{pointer_is_told}
use Rattle.c65_agree_access.specs.Pointed.{with_pointer}
use Rattle.c65_agree_access.specs.Sums.{IsClear, DirectRightSumsPoint, DirectLeftSumsPoint, HeldSumsPoint}
use Rattle.c65_agree_access.proofs.Words.{HasSum, word_points, elements_point}
use Rattle.c65_agree_access.proofs.Walked.{IsPointing, right_points, left_points, held_points}

-- ---- a place that is moved

module _ (g : World) (a : Active) (pushed needs : ℕ) (c : Scene) (w : Placing) (b : Banks) (u : State) (ready : Ready g a pushed needs c w b u) where
  moved_points : (size n k : ℕ) (w1 : Placing) (v x : Value) (z : ℤ) (ls : List Line) → Grows w1 w → n < 65536 → ValueIs w1 65536 v n → IsMoved c.store v x (bytes_by ops.Add size z) → k ≡ word_on ops.Add n ((residue 65536 z * told size) % 65536)
      → Leads g a ls 2560 u (HasSum g a c w b u k) → Leads g a ls 2560 u (IsPointing g a c w b u x)
  moved_points size n k w1 v x z ls grows few is h same lead =
      let value : ValueIs w 65536 x k = subst (ValueIs w 65536 x) (sym same) (moved_is c.store w1 w u.mem b ops.Add size n v x z ready.joins.stands grows tt few is h) in
      let fit : MayFit Valued (Pointer size) x = subst (MayFit Valued (Pointer size)) (sym h.result) tt in
      leads_as g a ls 2560 2560 u (HasSum g a c w b u k) (IsPointing g a c w b u x) (omega arith)
      (λ y d. record { kept = d.kept; told = pointer_is_told g a c w (with_pointer y) size x (pointer_result size w x (with_pointer y) fit (subst (ValueIs w 65536 x) (sym d.word) value)) }) lead

-- a pointer that is read behind the lines that make bytes of elements in AX
module _ (g : World) (a : Active) (label pushed needs : ℕ) (d : Direct) (low high : OperandByte) (placed : IsPlacement g.code g.place) (clear : IsClear high) (pair : word_in d ≡ Some (low, high)) (size : ℕ) where
  indexed_points : (c : Scene) (w : Placing) (b : Banks) (u : State) (v x : Value) (count : ℤ) → Ready g a pushed (1 + needs) c w b u → ax_of u ≡ residue 65536 count → IsMoved c.store v x (pos size *ℤ count) → ((needs2 : ℕ) (y : State) → Ready g a pushed needs2 c w b y → HasBytes g c.store w y Ax d v)
      → Leads g a (pointed_form (Indexed (told size) low high) label) 2560 u (IsPointing g a c w b u x)
  indexed_points c w b u v x count ready ax moved reads =
      let live : IsOfLive c.store v = subst (IsOfLive c.store) (sym moved.left) moved.live in
      let read : (needs2 : ℕ) (y : State) → Ready g a pushed needs2 c w b y → IsRead g w y v low high = λ needs2 y ready2. pointer_pair g c.store w y d low high v pair live (reads needs2 y ready2) in
      let here : IsRead g w u v low high = read (1 + needs) u ready in
      let less : Ready g a pushed needs c w b u = record { joins = ready.joins; sp = ready.sp; room = omega (arith, ready.room); none_pushed = ready.none_pushed } in
      let two : HasTwo a needs c u = omega (arith, ready.room) in
      let n : ℕ = (ax_of u * told size) % 65536 in
      let turned : word_on ops.Add n here.word ≡ word_on ops.Add here.word ((residue 65536 count * told size) % 65536) = turn n here.word ∙ ap (λ k. (here.word + (k * told size) % 65536) % 65536) ax in
      moved_points g a pushed (1 + needs) c w b u ready size here.word (word_on ops.Add n here.word) w v x count (pointed_form (Indexed (told size) low high) label) (λ i q f. f) here.below here.is moved turned
      (elements_point g a label pushed needs low high placed clear c w b u here.word (told size) less two (told_below size)
      (λ y ready2. let later : IsRead g w y v low high = read needs y ready2 in subst (HasPair g y low high) (same_word w v moved.block moved.from later.word here.word moved.left later.is here.is) later.pair))

-- ---- by the operands

module _ (g : World) (a : Active) (label pushed needs : ℕ) (d : Direct) (low high : OperandByte) (placed : IsPlacement g.code g.place) (clear : IsClear high) (pair : word_in d ≡ Some (low, high)) (size : ℕ) (t : IntType) where
  -- a pointer in AX, and a number of elements of one byte
  first_points : told size ≡ 1 → (c : Scene) (w : Placing) (b : Banks) (u : State) (va vb x : Value) → Ready g a pushed (1 + needs) c w b u → MayFit Valued (Pointer size) va → ResultIs Valued w Ax va u → Fits (Number t) vb
      → IsReadAt g a pushed (Number t) d c w u vb → binary c.store ops.Add (Pointer size) (Number t) va vb ≡ Ok x → Leads g a (pointed_form (Word ops.Add low high) label) 2560 u (IsPointing g a c w b u x)
  first_points one c w b u va vb x ready fit1 is fit2 reads e =
      let s = pointer_summed c.store ops.Add size t va vb x tt e in
      let small = ready.joins.bytes in
      let p : ℕ = residue 65536 s.count in
      let there : HasPair g u low high p = number_pair g c.store w u t d low high s.count pair (subst (λ v. HasBytes g c.store w u (width_in (Number t)) d v) s.right (reads (1 + needs) b u ready)) in
      moved_points g a pushed (1 + needs) c w b u ready size (ax_of u) (word_on ops.Add (ax_of u) p) w va x s.count (pointed_form (Word ops.Add low high) label) (λ i q f. f) (omega (arith, small.a, small.x)) (pointer_word size w va u fit1 is) s.moved (ap (word_on ops.Add (ax_of u)) (one_byte s.count size one))
      (word_points g a label pushed (1 + needs) low high placed clear c w b u p ready there)

  -- a number in AX, and a pointer
  last_points : (c : Scene) (w : Placing) (b : Banks) (u : State) (va vb x : Value) → Ready g a pushed (1 + needs) c w b u → MayFit Valued (Number t) va → ResultIs Valued w (width_in (Number t)) va u → Fits (Pointer size) vb
      → IsReadAt g a pushed (Pointer size) d c w u vb → binary c.store ops.Add (Number t) (Pointer size) va vb ≡ Ok x → Leads g a (pointed_form (Indexed (told size) low high) label) 2560 u (IsPointing g a c w b u x)
  last_points c w b u va vb x ready fit1 is fit2 reads e =
      let s = number_summed c.store size t va vb x e in
      let ax : ax_of u ≡ residue 65536 s.count = number_word t w s.count u ready.joins.bytes (subst (λ v. ResultIs Valued w (width_in (Number t)) v u) s.right is) in
      indexed_points g a label pushed needs d low high placed clear pair size c w b u vb x s.count ready ax s.moved (λ needs2 y ready2. reads needs2 b y ready2)

  -- a pointer that is read behind a number
  behind_points : (c : Scene) (w : Placing) (b : Banks) (u : State) (va vb x : Value) → Ready g a pushed (1 + needs) c w b u → Fits (Pointer size) va → ((needs2 : ℕ) (y : State) → Ready g a pushed needs2 c w b y → HasBytes g c.store w y Ax d va)
      → MayFit Valued (Number t) vb → ResultIs Valued w (width_in (Number t)) vb u → binary c.store ops.Add (Pointer size) (Number t) va vb ≡ Ok x → Leads g a (pointed_form (Indexed (told size) low high) label) 2560 u (IsPointing g a c w b u x)
  behind_points c w b u va vb x ready fit1 reads fit2 is e =
      let s = pointer_summed c.store ops.Add size t va vb x tt e in
      let ax : ax_of u ≡ residue 65536 s.count = number_word t w s.count u ready.joins.bytes (subst (λ v. ResultIs Valued w (width_in (Number t)) v u) s.right is) in
      indexed_points g a label pushed needs d low high placed clear pair size c w b u va x s.count ready ax s.moved reads

-- a pointer that waits, and a number of elements of one byte in AX
waiting_points : (g : World) (a : Active) (label pushed needs size : ℕ) (t : IntType) → IsPlacement g.code g.place → told size ≡ 1 → (w1 : Placing) (s1 : State) (c : Scene) (w : Placing) (b : Banks) (u : State) (va vb x : Value) → Grows w1 w → ax_of s1 < 65536 → Ready g a pushed (1 + needs) c w b u → MayFit Valued (Pointer size) va → ResultIs Valued w1 Ax va s1
    → HasPair g u held_low held_high (ax_of s1) → MayFit Valued (Number t) vb → ResultIs Valued w (width_in (Number t)) vb u → binary c.store ops.Add (Pointer size) (Number t) va vb ≡ Ok x → Leads g a (pointed_form (Word ops.Add held_low held_high) label) 2560 u (IsPointing g a c w b u x)
waiting_points g a label pushed needs size t placed one w1 s1 c w b u va vb x grows few ready fit1 is1 pair fit2 is e =
    let s = pointer_summed c.store ops.Add size t va vb x tt e in
    let ax : ax_of u ≡ residue 65536 s.count = number_word t w s.count u ready.joins.bytes (subst (λ v. ResultIs Valued w (width_in (Number t)) v u) s.right is) in
    moved_points g a pushed (1 + needs) c w b u ready size (ax_of s1) (word_on ops.Add (ax_of u) (ax_of s1)) w1 va x s.count (pointed_form (Word ops.Add held_low held_high) label) grows few (pointer_word size w1 va s1 fit1 is1) s.moved
    (turn (ax_of u) (ax_of s1) ∙ ap (word_on ops.Add (ax_of s1)) (ax ∙ one_byte s.count size one))
    (word_points g a label pushed (1 + needs) held_low held_high placed (λ h. omega (arith, h)) c w b u (ax_of s1) ready pair)

-- ---- the laws

pub direct_right_sums_point : DirectRightSumsPoint
direct_right_sums_point g a op f h r operands right_type form d low high label needs more_needs pushed first second left right placed (pointer_first size t sums) adds pair clear is before reads =
    let w = word_form_is op (told size) low high form sums is in
    rw (w.form_is, adds) (right_points g a (Pointer size) (Number t) needs more_needs pushed first second left (pointed_form (Word ops.Add low high) label) d reads (first_points g a label pushed more_needs d low high placed clear pair size t w.one) before)
direct_right_sums_point g a op f h r operands right_type form d low high label needs more_needs pushed first second left right placed (pointer_last size t) adds pair clear is before reads =
    let same : form ≡ Indexed (told size) low high = same_form (Indexed (told size) low high) form is in
    rw same (right_points g a (Number t) (Pointer size) needs more_needs pushed first second left (pointed_form (Indexed (told size) low high) label) d reads (last_points g a label pushed more_needs d low high placed clear pair size t) before)
direct_right_sums_point g a op f h r operands right_type form d low high label needs more_needs pushed first second left right placed (pointers size other) adds pair clear is before reads = absurd cc

pub direct_left_sums_point : DirectLeftSumsPoint
direct_left_sums_point g a pure op f h r operands right_type form d low high label needs more_needs pushed first second left right placed (pointer_first size t sums) adds pair clear is reads behind =
    let i = indexed_is op (told size) low high form sums is in
    rw (i.form_is, adds) (left_points g a pure (Pointer size) (Number t) needs more_needs pushed d first second right (pointed_form (Indexed (told size) low high) label) reads (behind_points g a label pushed more_needs d low high placed clear pair size t) behind)
direct_left_sums_point g a pure op f h r operands right_type form d low high label needs more_needs pushed first second left right placed (pointer_last size t) adds pair clear is reads behind = absurd cc
direct_left_sums_point g a pure op f h r operands right_type form d low high label needs more_needs pushed first second left right placed (pointers size other) adds pair clear is reads behind = absurd cc

pub held_sums_point : HeldSumsPoint
held_sums_point g a op f h r operands right_type form label needs more_needs pushed first second left right placed (pointer_first size t sums) adds is before behind =
    let i = held_form_is op (told size) form sums (told size == 1) refl is in
    rw (i.form_is, adds) (held_points g a (Pointer size) (Number t) needs more_needs pushed first second left right (pointed_form (Word ops.Add held_low held_high) label) placed refl (waiting_points g a label pushed more_needs size t placed i.one) before behind)
held_sums_point g a op f h r operands right_type form label needs more_needs pushed first second left right placed (pointer_last size t) adds is before behind = absurd cc
held_sums_point g a op f h r operands right_type form label needs more_needs pushed first second left right placed (pointers size other) adds is before behind = absurd cc
