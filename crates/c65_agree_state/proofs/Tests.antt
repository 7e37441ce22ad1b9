-- What the lines of a test of a constant do.
use Rattle.std.proofs.Common.{◌≡◌, ℕ, ℤ, pos, negsuc, zero, suc, ◌+◌, ◌*◌, ◌<◌, Bool, true, false, ◌∷◌, refl, sym, ap, ◌∙◌, subst, arith}
use Rattle.std.specs.Prelude.{not, ◌==◌, Ok}
use Rattle.std.specs.Bool.{beq}
use Rattle.std.proofs.lemmas.Bool.Decides.{nat_tests}
use Rattle.std.proofs.lemmas.Int.{ints}
use Rattle.c65_ints.specs.declared.types.IntType.{IntType}
use Rattle.c65_ints.specs.declared.types.IntType.TheVariants as I
use Rattle.c65_ints.specs.Ranges.{InRange}
use Rattle.c65_mach.specs.declared.rows.Op.TheVariants.{Jmp}
use Rattle.c65_mach.specs.declared.rows.Mode.TheVariants.{Absolute}
use Rattle.c65_meaning.specs.Store.{Store, Whole, Number}
use Rattle.c65_meaning.specs.Items.{Push}
use Rattle.c65_meaning.specs.Operators.{truth_of}
use Rattle.c65_meaning.specs.State as meaning
use Rattle.c65_meaning.specs.State.{Scene}
use Rattle.c65_meaning.specs.Step.{steps}
use Rattle.c65_code.specs.declared.line.Operand.TheVariants.{To}
use Rattle.c65_code.specs.declared.line.Line.TheVariants.{Do}
use Rattle.c65_code.specs.LineState.{State}
use Rattle.c65_code.specs.Forms.{Jump}
use Rattle.c65_code.specs.Moves.{labelled}
use Rattle.c65_code.specs.Comes.{Seen, seen_at}
use Rattle.c65_genexpr.specs.Operands.{residue_of}
use Rattle.c65_genexpr.specs.Wanted.{decided_code}
use Rattle.c65_agree_store.specs.Stands.{Placing, Banks}
use Rattle.c65_agree_step.specs.Ways.{place_at, IsAtLine}
use Rattle.c65_agree_step.proofs.Ways.{weaken, jumps_go}
use Rattle.c65_agree_state.specs.World.{World, program_in, setting_in, Active, lines_of, place_in, HasTurns}
use Rattle.c65_agree_state.specs.Follows.{Agrees, Follows}
use Rattle.c65_agree_state.specs.Exprs.{Ready, Kept, Tells, Tests}
use Rattle.c65_agree_state.specs.Laws.{ConstantTestsDo}
use Rattle.c65_agree_state.proofs.Followed.{follows_weaken, steps_earn, heads_count, ready_is_calm}

-- nothing has changed
kept_itself : (g : World) (a : Active) (pushed needs : ℕ) (c : Scene) (w : Placing) (k : Banks) (t : State) → Ready g a pushed needs c w k t → Kept g a c w k t c w k t
kept_itself g a pushed needs c w k t r = record { joins = r.joins; sp = refl; frames = refl; next = omega arith; bounds = λ b lt. refl; grows = λ b q e. e; kept = λ n le f. (refl, f); banks = λ d i lt. refl; own_bank = λ i le. refl; none_pushed = r.none_pushed }

-- a number of 32 bits is 0 where its residue is
module _ (store : Store) where
  abbrev Agree : ℤ → Type 0
  Agree z = truth_of store (Whole z) ≡ Ok (not (residue_of z == 0))

  of_positive : (n : ℕ) → n < 4294967296 → Agree (pos n)
  of_positive zero lt = refl
  of_positive (suc n) lt =
      let h : (residue_of (pos (suc n)) == 0) ≡ false = grind (arith, nat_tests) in
      rw h refl

  of_negative : (n : ℕ) → n < 2147483648 → Agree (negsuc n)
  of_negative n lt =
      let h : (residue_of (negsuc n) == 0) ≡ false = grind (arith, nat_tests) in
      rw h refl

  truth_agrees : (kind : IntType) (z : ℤ) → InRange kind z → Agree z
  truth_agrees I.SChar (pos n) r = of_positive n (omega (arith, ints, r.high))
  truth_agrees I.UChar (pos n) r = of_positive n (omega (arith, ints, r.high))
  truth_agrees I.Short (pos n) r = of_positive n (omega (arith, ints, r.high))
  truth_agrees I.UShort (pos n) r = of_positive n (omega (arith, ints, r.high))
  truth_agrees I.Int (pos n) r = of_positive n (omega (arith, ints, r.high))
  truth_agrees I.UInt (pos n) r = of_positive n (omega (arith, ints, r.high))
  truth_agrees I.Long (pos n) r = of_positive n (omega (arith, ints, r.high))
  truth_agrees I.ULong (pos n) r = of_positive n (omega (arith, ints, r.high))
  truth_agrees I.SChar (negsuc n) r = of_negative n (omega (arith, ints, r.low))
  truth_agrees I.UChar (negsuc n) r = of_negative n (omega (arith, ints, r.low))
  truth_agrees I.Short (negsuc n) r = of_negative n (omega (arith, ints, r.low))
  truth_agrees I.UShort (negsuc n) r = of_negative n (omega (arith, ints, r.low))
  truth_agrees I.Int (negsuc n) r = of_negative n (omega (arith, ints, r.low))
  truth_agrees I.UInt (negsuc n) r = of_negative n (omega (arith, ints, r.low))
  truth_agrees I.Long (negsuc n) r = of_negative n (omega (arith, ints, r.low))
  truth_agrees I.ULong (negsuc n) r = of_negative n (omega (arith, ints, r.low))

-- a jump under what is followed
pub jump : (g : World) (n v : ℕ) (m : meaning.State) (f p l : ℕ) (t : State) (seen : Seen) → IsAtLine (setting_in g) f p t (Jump l)
    → Follows g n v m (place_at (setting_in g) f (labelled ((setting_in g).lines f) l)) t (seen_at (place_at (setting_in g) f (labelled ((setting_in g).lines f) l)) seen)
    → Follows g n (1 + v) m (place_at (setting_in g) f p) t seen
jump g n v m f p l t seen at k d =
    let q = Agrees g (steps (program_in g) n m) in
    weaken (setting_in g) q (4000 * n + (1 + v)) (omega arith) (jumps_go q (setting_in g) (4000 * n + v) f p l t seen at (k d))

module _ (g : World) (a : Active) (kind : IntType) (z : ℤ) (range : InRange kind z) (needs pushed to : ℕ) where
  tells : (store : Store) (truth s : Bool) → truth_of store (Whole z) ≡ Ok truth → Tells store (Whole z) s (beq truth s)
  tells store truth s is = λ b e.
      let same : Ok truth ≡ Ok b = sym is ∙ e in
      let same2 : truth ≡ b = cc in
      ap (λ x. beq x s) same2

  decided : (truth s : Bool) → ((store : Store) → truth_of store (Whole z) ≡ Ok truth) → Tests g a (Number kind) s to (λ k. Push (Whole z) ∷ k) needs pushed (decided_code truth s to)
  decided true true is n w p k vs c q b t seen has r turns rest =
      let calm = (ready_is_calm g a pushed needs c q b t r).calm in
      let at = place_in g a (labelled (lines_of g a) to) in
      steps_earn g n w (Push (Whole z)) k vs c _ t seen calm r.joins.output r.joins.ended (omega (arith, turns)) (λ j lt.
      follows_weaken g j (1 + (w + 2600)) (w + 4000) _ _ t seen (omega arith)
      (jump g j (w + 2600) _ a.symbol p to t seen (record { line = Do Jmp Absolute (To to); there = has.0; formed = refl; calm = calm; within = tt; running = r.joins.ended })
      (rest j (Whole z) true c q b t (seen_at at seen) lt (kept_itself g a pushed needs c q b t r) range (tells c.store true true (is c.store)) (heads_count g c.turns at seen (omega (arith, turns))))))
  decided false false is n w p k vs c q b t seen has r turns rest =
      let calm = (ready_is_calm g a pushed needs c q b t r).calm in
      let at = place_in g a (labelled (lines_of g a) to) in
      steps_earn g n w (Push (Whole z)) k vs c _ t seen calm r.joins.output r.joins.ended (omega (arith, turns)) (λ j lt.
      follows_weaken g j (1 + (w + 2600)) (w + 4000) _ _ t seen (omega arith)
      (jump g j (w + 2600) _ a.symbol p to t seen (record { line = Do Jmp Absolute (To to); there = has.0; formed = refl; calm = calm; within = tt; running = r.joins.ended })
      (rest j (Whole z) true c q b t (seen_at at seen) lt (kept_itself g a pushed needs c q b t r) range (tells c.store false false (is c.store)) (heads_count g c.turns at seen (omega (arith, turns))))))
  decided true false is n w p k vs c q b t seen has r turns rest =
      let calm = (ready_is_calm g a pushed needs c q b t r).calm in
      let behind : p ≡ p + 0 = omega arith in
      steps_earn g n w (Push (Whole z)) k vs c _ t seen calm r.joins.output r.joins.ended (omega (arith, turns)) (λ j lt.
      follows_weaken g j (w + 2600) (w + 4000) _ _ t seen (omega arith)
      (subst (λ m. Follows g j (w + 2600) (meaning.Running k (Whole z ∷ vs) c) (place_in g a m) t seen) (sym behind)
      (rest j (Whole z) false c q b t seen lt (kept_itself g a pushed needs c q b t r) range (tells c.store true false (is c.store)) (subst (λ m. HasTurns g c.turns (place_in g a m) seen) behind turns))))
  decided false true is n w p k vs c q b t seen has r turns rest =
      let calm = (ready_is_calm g a pushed needs c q b t r).calm in
      let behind : p ≡ p + 0 = omega arith in
      steps_earn g n w (Push (Whole z)) k vs c _ t seen calm r.joins.output r.joins.ended (omega (arith, turns)) (λ j lt.
      follows_weaken g j (w + 2600) (w + 4000) _ _ t seen (omega arith)
      (subst (λ m. Follows g j (w + 2600) (meaning.Running k (Whole z ∷ vs) c) (place_in g a m) t seen) (sym behind)
      (rest j (Whole z) false c q b t seen lt (kept_itself g a pushed needs c q b t r) range (tells c.store false true (is c.store)) (subst (λ m. HasTurns g c.turns (place_in g a m) seen) behind turns))))

pub constant_tests_do : ConstantTestsDo
constant_tests_do g a kind z c v range pushed fresh to s = decided g a kind z range 0 pushed to (not (residue_of z == 0)) s (λ store. truth_agrees store kind z range)
