-- A number of elements in AX, as bytes, and a pointer that is read behind their lines.
use Rattle.std.proofs.Common.{◌≡◌, ℕ, ◌+◌, ◌*◌, ◌%◌, ◌<◌, ℤ, pos, ◌*ℤ◌, true, Some, refl, sym, ap, ◌∙◌, subst, arith}
use Rattle.std.specs.Prelude.{◌==◌}
use Rattle.c65_base.specs.declared.operators.BinaryOp.TheVariants as ops
use Rattle.c65_ints.specs.Ranges.{residue}
use Rattle.c65_meaning.specs.Store.{Value, Pointer}
use Rattle.c65_meaning.specs.State.{Scene}
use Rattle.c65_code.specs.declared.routine.Width.TheVariants.{Ax}
use Rattle.c65_code.specs.LineState.{State, ax_of}
use Rattle.c65_code.specs.Placement.{IsPlacement}
use Rattle.c65_gendirect.specs.declared.bytes.OperandByte.{OperandByte}
use Rattle.c65_gendirect.specs.declared.direct.Direct.{Direct}
use Rattle.c65_genexpr.specs.declared.operating.Form.TheVariants.{Indexed}
use Rattle.c65_genexpr.specs.Operating.{word_in, value_form}
use Rattle.c65_agree_store.specs.Stands.{Placing, Banks}
use Rattle.c65_agree_state.specs.World.{World, Active, lines_of, IsPlaced}
use Rattle.c65_agree_state.specs.Exprs.{Ready}
use Rattle.c65_agree_frame.specs.Leads.{Leads}
use Rattle.c65_agree_direct.specs.Operands.{IsOfLive, HasBytes}
use Rattle.c65_agree_operate.specs.Manners.{Manner}
use Rattle.c65_agree_operate.proofs.Behind.{IsGiven}
use Rattle.c65_agree_operate_bytes.proofs.Words.{word_on}
use Rattle.c65_agree_operate_bytes.proofs.Rights.{HasPair}
use Rattle.c65_agree_quick.specs.Laws.{HasTwo}
use Rattle.c65_agree_pointers.specs.Sums.{told}
use Rattle.c65_agree_store.proofs.Moved.{IsMoved}
use Rattle.c65_agree_pointers.proofs.Elements.{told_below}
use Rattle.c65_agree_pointers.proofs.Words.{IsRead, pointer_pair, same_word}
use Rattle.c65_agree_pointers.proofs.Given.{moved_given}
use Rattle.c65_agree_pointers.proofs.Forms.{indexed_form}

pub turn : (n k : ℕ) → (n + k) % 65536 ≡ (k + n) % 65536
turn n k = let same : n + k ≡ k + n = omega arith in ap (λ x. x % 65536) same

module _ (g : World) (a : Active) (m : Manner) (label pushed needs : ℕ) (d : Direct) (low high : OperandByte) (placed : IsPlacement g.code g.place) (own : IsPlaced (lines_of g a)) (pair : word_in d ≡ Some (low, high)) (size : ℕ) (light : m.light ≡ true → (told size == 1) ≡ true) where
  pub indexed_leads : (c : Scene) (w : Placing) (b : Banks) (u : State) (v x : Value) (count : ℤ) → Ready g a pushed (1 + needs) c w b u → ax_of u ≡ residue 65536 count → IsMoved c.store v x (pos size *ℤ count) → ((needs2 : ℕ) (y : State) → Ready g a pushed needs2 c w b y → HasBytes g c.store w y Ax d v)
      → Leads g a (value_form (Indexed (told size) low high) label) 2560 u (IsGiven g a m (Pointer size) c w b u x)
  indexed_leads c w b u v x count ready ax moved reads =
      let live : IsOfLive c.store v = subst (IsOfLive c.store) (sym moved.left) moved.live in
      let read : (needs2 : ℕ) (y : State) → Ready g a pushed needs2 c w b y → IsRead g w y v low high = λ needs2 y ready2. pointer_pair g c.store w y d low high v pair live (reads needs2 y ready2) in
      let here : IsRead g w u v low high = read (1 + needs) u ready in
      let less : Ready g a pushed needs c w b u = record { joins = ready.joins; sp = ready.sp; room = omega (arith, ready.room); none_pushed = ready.none_pushed } in
      let two : HasTwo a needs c u = omega (arith, ready.room) in
      let n : ℕ = (ax_of u * told size) % 65536 in
      let turned : word_on ops.Add n here.word ≡ word_on ops.Add here.word ((residue 65536 count * told size) % 65536) = turn n here.word ∙ ap (λ k. (here.word + (k * told size) % 65536) % 65536) ax in
      moved_given g a m pushed (1 + needs) c w b u ready ops.Add size here.word (word_on ops.Add n here.word) w v x count (value_form (Indexed (told size) low high) label) tt (λ i q f. f) here.below here.is moved turned
      (indexed_form g a m label pushed needs low high placed own c w b u here.word (told size) less two (told_below size) light
      (λ y ready2. let later : IsRead g w y v low high = read needs y ready2 in subst (HasPair g y low high) (same_word w v moved.block moved.from later.word here.word moved.left later.is here.is) later.pair))
