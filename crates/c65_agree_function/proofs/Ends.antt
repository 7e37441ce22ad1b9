-- Behind the lines of a body the call ends.
use Rattle.std.proofs.Common.{◌≡◌, ℕ, suc, ◌+◌, ◌<◌, Bool, true, false, pos, List, ◌∷◌, ◌++◌, Some, refl, sym, ◌∙◌, ap, subst, slice_get, arith}
use Rattle.std.specs.Prelude.{◌==◌, ◌&&◌, not, if◌then◌else◌}
use Rattle.std.proofs.lemmas.Int.{ints}
use Rattle.c65_ints.specs.declared.types.IntType.TheVariants.{Int}
use Rattle.c65_mach.specs.declared.rows.Op.TheVariants.{Lda, Ldx}
use Rattle.c65_mach.specs.declared.rows.Mode.TheVariants.{Immediate}
use Rattle.c65_mach.specs.State.{Regs}
use Rattle.c65_mach.specs.Step.{apply}
use Rattle.c65_meaning.specs.Store.{Value, Shape, Whole, NoValue, Number}
use Rattle.c65_meaning.specs.Items.{Leave}
use Rattle.c65_meaning.specs.State.{Scene}
use Rattle.c65_meaning.specs.Step.{func_in, at_the_end, left_call}
use Rattle.c65_code.specs.declared.line.Line.{Line}
use Rattle.c65_code.specs.declared.line.Line.TheVariants.{Label}
use Rattle.c65_code.specs.declared.line.Operand.TheVariants.{Byte}
use Rattle.c65_code.specs.LineState.{Place, State, IsBytes, sp_of}
use Rattle.c65_code.specs.Placement.{IsPlacement}
use Rattle.c65_code.specs.Moves.{labelled}
use Rattle.c65_code.specs.Steady.{IsCalm}
use Rattle.c65_code.specs.Comes.{Seen, seen_at}
use Rattle.c65_genwide.specs.Lines.{value}
use Rattle.c65_genstmt.specs.Functions.{main_code}
use Rattle.c65_genentry.specs.Ends.{end_code}
use Rattle.c65_agree_store.specs.Stands.{Placing, Banks}
use Rattle.c65_agree_state.specs.World.{World, program_in, unit_in, setting_in, Active, lines_of, place_in, HasAt, IsPlaced, HasTurns}
use Rattle.c65_agree_state.specs.Follows.{Follows}
use Rattle.c65_agree_state.specs.Exprs.{Ready, Kept, Valued, MayFit, ResultIs, width_in}
use Rattle.c65_agree_between.specs.Stmts.{Between, Keeping, GoesOn}
use Rattle.c65_agree_state.proofs.Followed.{follows_weaken, steps_earn, arrivals_count, ready_is_calm}
use Rattle.c65_agree_between.proofs.Between.{between_is_ready, between_stays, keeping_goes_on}
use Rattle.c65_agree_state.proofs.Leaves.{scratch_is_kept, with_regs, run}
use Rattle.c65_agree_state.proofs.Yields.{nothing_may_fit}
use Rattle.c65_agree_stmts.specs.Calling.{Calling}
use Rattle.c65_agree_function.specs.Functions.{MainGives}

module _ (x : Calling) (placed : IsPlacement x.world.code x.world.place) (single : IsPlaced (lines_of x.world x.active)) (gives : MainGives x.world x.active x.result) (n v : ℕ) where
  abbrev g : World
  g = x.world

  abbrev a : Active
  a = x.active

  abbrev at : ℕ → Place
  at p = place_in g a p

  -- the way out of the call
  abbrev Out : Type 0
  Out = (j : ℕ) (value : Value) (c : Scene) (q : Placing) (b : Banks) (t : State) (seen : Seen)
      → j < n → Between g a x.needs x.params c q b t → Keeping a x.first x.placing x.banks x.state c q b t → ResultIs Valued q (width_in x.result) value t → MayFit Valued x.result value
      → HasTurns g c.turns (at (labelled (lines_of g a) 0)) seen
      → Follows g j v (left_call (unit_in g) value x.below x.values c) (at (labelled (lines_of g a) 0)) t seen

  -- from label 0 on
  ends_at : (p : ℕ) → slice_get (lines_of g a) p ≡ Some (Label 0) → Out → (j : ℕ) (value : Value) (c : Scene) (q : Placing) (b : Banks) (t : State) (seen : Seen)
      → j < n → Between g a x.needs x.params c q b t → Keeping a x.first x.placing x.banks x.state c q b t → ResultIs Valued q (width_in x.result) value t → MayFit Valued x.result value → HasTurns g c.turns (at p) seen
      → Follows g j v (left_call (unit_in g) value x.below x.values c) (at p) t seen
  ends_at p there out j value c q b t seen lt between keeping result fits turns =
      let same : labelled (lines_of g a) 0 ≡ p = single p 0 there in
      subst (λ (l : ℕ). Follows g j v (left_call (unit_in g) value x.below x.values c) (at l) t seen) same
      (out j value c q b t seen lt between keeping result fits (subst (λ (l : ℕ). HasTurns g c.turns (at l) seen) (sym same) turns))

  -- what the meaning gives there
  the_end : (c : Scene) → func_in c.frames ≡ a.func → (b : Bool) → (a.func == g.main) ≡ b → at_the_end (program_in g) c.frames ≡ (if b then Whole (pos 0) else NoValue)
  the_end c active b e = ap (λ (f : ℕ). if f == g.main then Whole (pos 0) else NoValue) active ∙ ap (λ (y : Bool). if y then Whole (pos 0) else NoValue) e

  -- ---- main, whose end gives 0

  module _ (c : Scene) (q : Placing) (b : Banks) (t : State) (between : Between g a x.needs x.params c q b t) (keeping : Keeping a x.first x.placing x.banks x.state c q b t) where
    abbrev t1 : State
    t1 = record t { regs = apply false Ldx 0 t.regs }

    abbrev t2 : State
    t2 = record t { regs = apply false Lda 0 (apply false Ldx 0 t.regs) }

    ready : Ready g a 0 x.needs c q b t
    ready = between_is_ready g a x.needs x.params c q b t between

    kept : (r : Regs) → IsBytes (record t { regs = r }) → Kept g a c q b t c q b (record t { regs = r })
    kept r bytes = scratch_is_kept g a 0 x.needs c q b t (record t { regs = r }) placed ready (with_regs (sp_of t) t r bytes) refl

    calm1 : IsBytes t1 → IsCalm (setting_in g) t1
    calm1 bytes = (ready_is_calm g a 0 x.needs c q b t1 (record { joins = (kept (apply false Ldx 0 t.regs) bytes).joins; sp = ready.sp; room = ready.room; none_pushed = ready.none_pushed })).calm

    between2 : IsBytes t2 → Between g a x.needs x.params c q b t2
    between2 bytes = between_stays g a x.needs x.params c c q q b b t t2 between (kept (apply false Lda 0 (apply false Ldx 0 t.regs)) bytes)

    keeping2 : IsBytes t2 → Keeping a x.first x.placing x.banks x.state c q b t2
    keeping2 bytes = keeping_goes_on g a x.needs x.params x.first c c x.placing q q x.banks b b x.state t t2 keeping between (kept (apply false Lda 0 (apply false Ldx 0 t.regs)) bytes)

    zero_given : x.result ≡ Number Int → ResultIs Valued q (width_in x.result) (Whole (pos 0)) t2 × MayFit Valued x.result (Whole (pos 0))
    zero_given e = subst (λ (f : Shape). ResultIs Valued q (width_in f) (Whole (pos 0)) t2 × MayFit Valued f (Whole (pos 0))) (sym e) (refl, record { low = omega (arith, ints); high = omega (arith, ints) })

  main_ends : (p : ℕ) (rest : List Line) → HasAt (lines_of g a) p (value Ldx 0 ∷ value Lda 0 ∷ Label 0 ∷ rest) → (a.func == g.main) ≡ true → Out → GoesOn g a x.needs x.first x.placing x.banks x.state x.params x.result x.below x.values n v x.params (Leave ∷ x.below) p
  main_ends p rest has main out j c q b t seen lt between keeping turns =
      steps_earn g j v Leave x.below x.values c (at p) t seen calm between.joins.output between.joins.ended (omega (arith, turns)) (λ i less.
      follows_weaken g i (1 + (1 + v)) (v + 4000) _ _ t seen (omega arith)
      (run g i (1 + v) _ a.symbol p t seen Ldx Immediate (Byte 0) (record { line = value Ldx 0; there = has.0; formed = refl; calm = calm; within = tt; running = between.joins.ended }) (omega arith) (λ b1.
      run g i v _ a.symbol (suc p) (t1 c q b t between keeping) _ Lda Immediate (Byte 0) (record { line = value Lda 0; there = has.1.0; formed = refl; calm = calm1 c q b t between keeping b1; within = tt; running = between.joins.ended }) (omega arith) (λ b2.
      let at1 : Place = at (suc p) in
      let at2 : Place = at (suc (suc p)) in
      let one : HasTurns g c.turns at1 (seen_at at1 seen) = arrivals_count g c.turns at1 seen (omega (arith, turns)) in
      let two : HasTurns g c.turns at2 (seen_at at2 (seen_at at1 seen)) = arrivals_count g c.turns at2 (seen_at at1 seen) (omega (arith, one)) in
      let given = zero_given c q b t between keeping (gives main) in
      subst (λ (w : Value). Follows g i v (left_call (unit_in g) w x.below x.values c) at2 (t2 c q b t between keeping) (seen_at at2 (seen_at at1 seen))) (sym (the_end c between.joins.active true main))
      (ends_at (suc (suc p)) has.1.1.0 out i (Whole (pos 0)) c q b (t2 c q b t between keeping) (seen_at at2 (seen_at at1 seen)) (omega (arith, lt, less)) (between2 c q b t between keeping b2) (keeping2 c q b t between keeping b2) given.0 given.1 two)))))
    where
      calm : IsCalm (setting_in g) t
      calm = (ready_is_calm g a 0 x.needs c q b t (between_is_ready g a x.needs x.params c q b t between)).calm

  -- ---- any other function, which gives no value there

  other_ends : (p : ℕ) (rest : List Line) → HasAt (lines_of g a) p (Label 0 ∷ rest) → (a.func == g.main) ≡ false → Out → GoesOn g a x.needs x.first x.placing x.banks x.state x.params x.result x.below x.values n v x.params (Leave ∷ x.below) p
  other_ends p rest has main out j c q b t seen lt between keeping turns =
      steps_earn g j v Leave x.below x.values c (at p) t seen calm between.joins.output between.joins.ended (omega (arith, turns)) (λ i less.
      follows_weaken g i v (v + 4000) _ _ t seen (omega arith)
      (subst (λ (w : Value). Follows g i v (left_call (unit_in g) w x.below x.values c) (at p) t seen) (sym (the_end c between.joins.active false main))
      (ends_at p has.0 out i NoValue c q b t seen (omega (arith, lt, less)) between keeping tt (nothing_may_fit x.result) turns)))
    where
      calm : IsCalm (setting_in g) t
      calm = (ready_is_calm g a 0 x.needs c q b t (between_is_ready g a x.needs x.params c q b t between)).calm

  -- ---- both

  pub body_ends : (p : ℕ) (returns : Bool) → HasAt (lines_of g a) p (main_code ((a.func == g.main) && not returns) ++ Label 0 ∷ end_code a.frame) → Out → returns ≡ false
      → GoesOn g a x.needs x.first x.placing x.banks x.state x.params x.result x.below x.values n v x.params (Leave ∷ x.below) p
  body_ends p true has out e = absurd (go e)
    where
      go : true ≡ false → ⊥
      go e = cc
  body_ends p false has out e = go (a.func == g.main) refl has
    where
      go : (main : Bool) → (a.func == g.main) ≡ main → HasAt (lines_of g a) p (main_code (main && true) ++ Label 0 ∷ end_code a.frame) → GoesOn g a x.needs x.first x.placing x.banks x.state x.params x.result x.below x.values n v x.params (Leave ∷ x.below) p
      go true is there = main_ends p (end_code a.frame) there is out
      go false is there = other_ends p (end_code a.frame) there is out
