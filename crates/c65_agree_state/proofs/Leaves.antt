-- What the lines of a constant do.
use Rattle.std.proofs.Common.{◌≡◌, ℕ, ℤ, pos, negsuc, suc, ◌+◌, ◌*◌, ◌<◌, ◌≤◌, ◌⊎◌, inl, inr, false, ◌∷◌, length, refl, sym, ◌∙◌, subst, arith}
use Rattle.c65_ints.specs.declared.types.IntType.{IntType}
use Rattle.c65_ints.specs.Ranges.{residue, InRange}
use Rattle.c65_mach.specs.declared.rows.Op.{Op}
use Rattle.c65_mach.specs.declared.rows.Op.TheVariants.{Lda, Ldx}
use Rattle.c65_mach.specs.declared.rows.Mode.{Mode}
use Rattle.c65_mach.specs.declared.rows.Mode.TheVariants.{Immediate}
use Rattle.c65_mach.specs.State.{Regs}
use Rattle.c65_mach.specs.Step.{apply}
use Rattle.c65_meaning.specs.Store.{Whole, Number}
use Rattle.c65_meaning.specs.Items.{Push}
use Rattle.c65_meaning.specs.State as meaning
use Rattle.c65_meaning.specs.State.{Scene}
use Rattle.c65_meaning.specs.Step.{steps}
use Rattle.c65_code.specs.declared.line.Operand.{Operand}
use Rattle.c65_code.specs.declared.line.Operand.TheVariants.{Byte}
use Rattle.c65_code.specs.declared.routine.Width.TheVariants.{Ax}
use Rattle.c65_code.specs.LineState.{Place as Spot, State, IsBytes, sp_of}
use Rattle.c65_code.specs.Forms.{Plain}
use Rattle.c65_code.specs.Placement.{IsPlacement, word_of}
use Rattle.c65_code.specs.Moves.{ref_of}
use Rattle.c65_code.specs.Steady.{IsCalm}
use Rattle.c65_code.specs.LineLaws.{IsGivenByte}
use Rattle.c65_code.specs.Comes.{Seen, seen_at}
use Rattle.c65_genwide.specs.Lines.{value}
use Rattle.c65_genwide.specs.Wide.{width_of}
use Rattle.c65_genload.specs.Numbers.{first, second, number_code}
use Rattle.c65_genexpr.specs.Operands.{residue_of}
use Rattle.c65_agree_store.specs.Stands.{Placing, Banks}
use Rattle.c65_agree_step.specs.Ways.{place_at, IsAtLine}
use Rattle.c65_agree_step.specs.Laws.{after_operation}
use Rattle.c65_agree_step.proofs.Ways.{weaken, operations_go}
use Rattle.c65_agree_state.specs.World.{World, program_in, setting_in, Active, place_in, HasTurns}
use Rattle.c65_agree_state.specs.Follows.{Agrees, Follows}
use Rattle.c65_agree_state.specs.Exprs.{Ready, Valued, Done, ResultIs, Does}
use Rattle.c65_agree_state.specs.Laws.{OnlyScratch, ScratchIsKept, ConstantsDo}
use Rattle.c65_agree_state.proofs.Followed.{follows_weaken, steps_earn, arrivals_count, ready_is_calm}
use Rattle.c65_agree_state.proofs.Scratch.{scratch_changes}

pub scratch_is_kept : ScratchIsKept
scratch_is_kept g a pushed needs c w k t u placed r o sp = record {
  joins = scratch_changes g a c w k t u placed r.joins below;
  sp = sp;
  frames = refl;
  next = omega arith;
  bounds = λ b lt. refl;
  grows = λ b q e. e;
  kept = λ n le f. (o.mem n (inr le), f);
  banks = λ d i lt. refl;
  own_bank = λ i le. refl;
  none_pushed = o.pushed ∙ r.none_pushed;
}
  where
    mem : (n : ℕ) → (n < 63472) ⊎ (a.base ≤ n) → u.mem n ≡ t.mem n
    mem n (inl h) = o.mem n (inl h)
    mem n (inr h) = o.mem n (inr (omega (arith, h, r.sp)))

    below : OnlyScratch a.base t u
    below = record { mem = mem; bank = o.bank; pushed = o.pushed; frames = o.frames; input = o.input; output = o.output; ended = o.ended; bytes = o.bytes }

-- other registers alone
pub with_regs : (base : ℕ) (t : State) (r : Regs) → IsBytes (record t { regs = r }) → OnlyScratch base t (record t { regs = r })
with_regs base t r b = record { mem = λ n h. refl; bank = λ i lt. refl; pushed = refl; frames = refl; input = refl; output = refl; ended = refl; bytes = b }

-- an operation under what is followed
pub run : (g : World) (n v : ℕ) (m : meaning.State) (f p : ℕ) (t : State) (seen : Seen) (op : Op) (mode : Mode) (operand : Operand) → IsAtLine (setting_in g) f p t (Plain op mode operand) → IsGivenByte (ref_of mode (word_of g.place operand) t)
    → (IsBytes (after_operation (setting_in g) op mode operand t) → Follows g n v m (place_at (setting_in g) f (suc p)) (after_operation (setting_in g) op mode operand t) (seen_at (place_at (setting_in g) f (suc p)) seen))
    → Follows g n (1 + v) m (place_at (setting_in g) f p) t seen
run g n v m f p t seen op mode operand at given k d =
    let q = Agrees g (steps (program_in g) n m) in
    weaken (setting_in g) q (4000 * n + (1 + v)) (omega arith) (operations_go q (setting_in g) (4000 * n + v) f p t seen op mode operand at given (λ b. k b d))

-- the two lowest bytes of a number modulo 2 to the 32
low_word : (z : ℤ) → first (residue_of z) + 256 * second (residue_of z) ≡ residue 65536 z
low_word (pos n) = omega arith
low_word (negsuc n) = omega arith

module _ (g : World) (a : Active) (placed : IsPlacement g.code g.place) (kind : IntType) (z : ℤ) (narrow : width_of kind ≡ Ax) (range : InRange kind z) (needs pushed : ℕ) where
  abbrev x : ℕ
  x = second (residue_of z)

  abbrev y : ℕ
  y = first (residue_of z)

  module _ (c : Scene) (q : Placing) (b : Banks) (t : State) (r : Ready g a pushed needs c q b t) where
    abbrev t1 : State
    t1 = record t { regs = apply false Ldx x t.regs }

    abbrev t2 : State
    t2 = record t { regs = apply false Lda y (apply false Ldx x t.regs) }

    calm : IsCalm (setting_in g) t
    calm = (ready_is_calm g a pushed needs c q b t r).calm

    -- between the two lines
    ready_between : IsBytes t1 → Ready g a pushed needs c q b t1
    ready_between b1 = record { joins = (scratch_is_kept g a pushed needs c q b t t1 placed r (with_regs (sp_of t) t (apply false Ldx x t.regs) b1) refl).joins; sp = r.sp; room = r.room; none_pushed = r.none_pushed }

    done : IsBytes t2 → Done g a Valued (Number kind) c q b t (Whole z) c q b t2
    done b2 = record {
      kept = scratch_is_kept g a pushed needs c q b t t2 placed r (with_regs (sp_of t) t (apply false Lda y (apply false Ldx x t.regs)) b2) refl;
      result = subst (λ width. ResultIs Valued q width (Whole z) t2) (sym narrow) (low_word z);
      fits = range;
    }

  word_does : Does g a Valued (Number kind) (λ k. Push (Whole z) ∷ k) needs pushed (number_code Ax (residue_of z))
  word_does n w p k vs c q b t seen has r turns rest =
      steps_earn g n w (Push (Whole z)) k vs c _ t seen (calm c q b t r) r.joins.output r.joins.ended (omega (arith, turns)) (λ j lt.
      follows_weaken g j (1 + (1 + (w + 2600))) (w + 4000) _ _ t seen (omega arith)
      (run g j (1 + (w + 2600)) _ a.symbol p t seen Ldx Immediate (Byte x) (record { line = value Ldx x; there = has.0; formed = refl; calm = calm c q b t r; within = tt; running = r.joins.ended }) (omega arith) (λ b1.
      run g j (w + 2600) _ a.symbol (suc p) (t1 c q b t r) _ Lda Immediate (Byte y) (record { line = value Lda y; there = has.1.0; formed = refl; calm = (ready_is_calm g a pushed needs c q b (t1 c q b t r) (ready_between c q b t r b1)).calm; within = tt; running = r.joins.ended }) (omega arith) (λ b2.
      let behind : suc (suc p) ≡ p + length (number_code Ax (residue_of z)) = omega arith in
      let at1 : Spot = place_in g a (suc p) in
      let at2 : Spot = place_in g a (suc (suc p)) in
      let one : HasTurns g c.turns at1 (seen_at at1 seen) = arrivals_count g c.turns at1 seen (omega (arith, turns)) in
      let two : HasTurns g c.turns at2 (seen_at at2 (seen_at at1 seen)) = arrivals_count g c.turns at2 (seen_at at1 seen) (omega (arith, one)) in
      let turned = subst (λ m. HasTurns g c.turns (place_in g a m) (seen_at at2 (seen_at at1 seen))) behind two in
      let goes = rest j (Whole z) c q b (t2 c q b t r) (seen_at at2 (seen_at at1 seen)) lt (done c q b t r b2) turned in
      subst (λ m. Follows g j (w + 2600) (meaning.Running k (Whole z ∷ vs) c) (place_in g a m) (t2 c q b t r) (seen_at at2 (seen_at at1 seen))) (sym behind) goes))))

pub constants_do : ConstantsDo
constants_do g a kind z c v placed narrow range pushed fresh =
    subst (λ width. Does g a Valued (Number kind) (λ k. Push (Whole z) ∷ k) 0 pushed (number_code width (residue_of z))) (sym narrow) (word_does g a placed kind z narrow range 0 pushed)
