-- Tests of values that are 1 or 0, and such values from tests.
use Rattle.std.proofs.Common.{◌≡◌, ℕ, suc, ◌+◌, ◌<◌, ◌≤◌, List, [], ◌∷◌, ◌++◌, length, Bool, true, false, refl, sym, ap, ◌∙◌, subst, arith, length-append}
use Rattle.std.specs.Prelude.{not, if◌then◌else◌, Result, Ok, Err}
use Rattle.std.specs.Bool.{beq}
use Rattle.std.proofs.lemmas.Int.{ints}
use Rattle.c65_base.specs.declared.operators.UnaryOp.TheVariants.{Not}
use Rattle.c65_ints.specs.declared.types.IntType.TheVariants.{Int}
use Rattle.c65_ints.specs.Ranges.{InRange}
use Rattle.c65_mach.specs.declared.rows.Op.TheVariants.{Lda, Ldx, Bne}
use Rattle.c65_mach.specs.State.{Regs}
use Rattle.c65_mach.specs.Step.{apply}
use Rattle.c65_meaning.specs.Why.{Why, ◌>>=◌}
use Rattle.c65_meaning.specs.Integers.{truth}
use Rattle.c65_meaning.specs.Store.{Store, Value, Whole, Number}
use Rattle.c65_meaning.specs.Items.{Item, Apply1}
use Rattle.c65_meaning.specs.Operators.{test, truth_of}
use Rattle.c65_meaning.specs.State.{Scene, Running}
use Rattle.c65_meaning.specs.Step.{go_on}
use Rattle.c65_code.specs.declared.line.Line.{Line}
use Rattle.c65_code.specs.declared.line.Line.TheVariants.{Label}
use Rattle.c65_code.specs.declared.routine.Width.TheVariants.{Ax}
use Rattle.c65_code.specs.LineState.{Place as Spot, State, IsBytes}
use Rattle.c65_code.specs.Moves.{labelled}
use Rattle.c65_code.specs.Placement.{IsPlacement}
use Rattle.c65_code.specs.Comes.{Seen}
use Rattle.c65_genwide.specs.Lines.{value}
use Rattle.c65_genload.specs.Words.{branch}
use Rattle.c65_gendirect.specs.Tests.{truth_code}
use Rattle.c65_agree_store.specs.Stands.{Placing, Banks}
use Rattle.c65_agree_state.specs.World.{World, Active, lines_of, place_in, IsPlaced, HasAt, HasTurns}
use Rattle.c65_agree_state.specs.Follows.{Follows}
use Rattle.c65_agree_state.specs.Exprs.{Ready, Valued, ResultIs, Kept, Done, Tells}
use Rattle.c65_agree_state.proofs.Followed.{follows_weaken, steps_earn, ready_is_calm}
use Rattle.c65_agree_state.proofs.Nodes.{has_front, has_back, ready_stays}
use Rattle.c65_agree_state.proofs.Parts.{kept_goes_on}
use Rattle.c65_agree_rows.proofs.Quiet.{nothing_follows}
use Rattle.c65_agree_frame.specs.Leads.{Leads, IsOn}
use Rattle.c65_agree_frame.proofs.Leads.{kept_regs, leads_then, leads_as, lines_lead}
use Rattle.c65_agree_load.proofs.Kept.{is_on}
use Rattle.c65_agree_operate.specs.Manners.{Manner, IsLeft, RestIn, RestOfTruth}
use Rattle.c65_agree_operate.specs.Laws.{DecisionsTest, NotsDecide, TruthsDo}
use Rattle.c65_agree_operate.proofs.Manners.{left_then, left_held}
use Rattle.c65_agree_operate.proofs.Routines.{label_leads}
use Rattle.c65_agree_operate.proofs.Exact.{at_regs, To, on_regs, zero_leads, leads_from, skip_leads, registers_kept, registers_held}

-- ---- 1 or 0

true_of : (s : Store) (b : Bool) → truth_of s (Whole (truth b)) ≡ Ok b
true_of s true = refl
true_of s false = refl

in_int : (b : Bool) → InRange Int (truth b)
in_int true = record { low = omega (arith, ints); high = omega (arith, ints) }
in_int false = record { low = omega (arith, ints); high = omega (arith, ints) }

tells : (store : Store) (b s : Bool) → Tells store (Whole (truth b)) s (beq b s)
tells store b s x e = let same : Ok b ≡ Ok x = sym (true_of store b) ∙ e in let same2 : b ≡ x = cc in ap (λ y. beq y s) same2

pub decisions_test : DecisionsTest
decisions_test g a m s to needs pushed work lines does n w p k vs c q b t seen has r turns rest =
    does n w p k vs c q b t seen has r turns (λ j v c2 q2 b2 u later lt kept left turned.
    follows_weaken g j (w + 2600 + m.over) (w + 2700 + m.over) (Running k (Whole (truth v) ∷ vs) c2) (place_in g a (if beq v s then labelled (lines_of g a) to else p + length lines)) u later (omega arith)
    (rest j (Whole (truth v)) (beq v s) c2 q2 b2 u later lt kept (in_int v) (tells c2.store v s) left turned))

-- ---- `!`

other_sense : (b s : Bool) → beq b (not s) ≡ beq (not b) s
other_sense true true = refl
other_sense true false = refl
other_sense false true = refl
other_sense false false = refl

module _ (g : World) (a : Active) (m : Manner) (s : Bool) (to : ℕ) (few : m.over ≤ 1000) (n weight p : ℕ) (k : List Item) (vs : List Value) (c : Scene) (w : Placing) (b : Banks) (t : State) (rest : RestOfTruth g a m s to n weight p k vs c w b t)
    (o : ℕ) (lt : o < n) (v : Value) (taken : Bool) (c2 : Scene) (w2 : Placing) (b2 : Banks) (u : State) (later : Seen) (kept : Kept g a c w b t c2 w2 b2 u) (told : Tells c2.store v (not s) taken) (left : IsLeft m c t c2 u) (turned : HasTurns g c2.turns (place_in g a (if taken then labelled (lines_of g a) to else p)) later) where
  abbrev at : Bool → Spot
  at x = place_in g a (if x then labelled (lines_of g a) to else p)

  turned_round : (x : Result Bool Why) → truth_of c2.store v ≡ x → Follows g o (weight + 2600 + m.over + 4000) (go_on (x >>= λ y. test (not y)) k vs c2) (at taken) u later
  turned_round (Err why) e = nothing_follows g why o (weight + 2600 + m.over + 4000) (at taken) u later
  turned_round (Ok y) e =
      let same : taken ≡ beq (not y) s = told y e ∙ other_sense y s in
      subst (λ x. Follows g o (weight + 2600 + m.over + 4000) (Running k (Whole (truth (not y)) ∷ vs) c2) (at x) u later) (sym same)
      (follows_weaken g o (weight + 2700 + m.over) (weight + 2600 + m.over + 4000) (Running k (Whole (truth (not y)) ∷ vs) c2) (at (beq (not y) s)) u later (omega arith)
      (rest o (not y) c2 w2 b2 u later lt kept left (subst (λ x. HasTurns g c2.turns (at x) later) same turned)))

pub nots_decide : NotsDecide
nots_decide g a m f s to needs pushed work lines placed few does n weight p k vs c w b t seen has r turns rest =
    does n weight p (Apply1 Not f ∷ k) vs c w b t seen has r turns (λ j v taken c2 w2 b2 u later lt kept fit told left turned.
    let ready = ready_stays g a pushed needs needs c c2 w w2 b b2 t u (omega arith) r kept in
    steps_earn g j (weight + 2600 + m.over) (Apply1 Not f) k (v ∷ vs) c2 (place_in g a (if taken then labelled (lines_of g a) to else p + length lines)) u later (ready_is_calm g a pushed needs c2 w2 b2 u ready).calm kept.joins.output kept.joins.ended (omega (arith, turned)) (λ o less.
    turned_round g a m s to few n weight (p + length lines) k vs c w b t rest o (omega (arith, lt, less)) v taken c2 w2 b2 u later kept told left turned (truth_of c2.store v) refl))

-- ---- AX from a test

-- only registers are other, and AX is so
record HasTruth (n : ℕ) (t u : State) : Type 0 where
  only : u ≡ at_regs t u.regs
  a : u.regs.a ≡ n
  x : u.regs.x ≡ 0
  bytes : IsBytes u

module _ (g : World) (a : Active) (t : State) (placed : IsPlacement g.code g.place) (on : IsOn g t) where
  -- LDA #n
  load_leads : (n : ℕ) (s : Regs) → n < 256 → IsBytes (at_regs t s) → Leads g a (value Lda n ∷ []) 1 (at_regs t s) (To t (apply false Lda n s))
  load_leads n s lt b = lines_lead g a (value Lda n ∷ []) (at_regs t s) placed (on_regs g a t placed on s b) (refl, tt, lt, kept_regs (at_regs t s) (apply false Lda n s), tt)

  end_leads : (n : ℕ) (u : State) → To t (apply false Lda n t.regs) u → Leads g a (value Ldx 0 ∷ []) 1 u (HasTruth n t)
  end_leads n u h =
      let s : Regs = apply false Lda n t.regs in
      leads_from g a (value Ldx 0 ∷ []) 1 t u s (HasTruth n t) h (λ b.
      leads_as g a (value Ldx 0 ∷ []) 1 1 (at_regs t s) (To t (apply false Ldx 0 s)) (HasTruth n t) (omega arith) (λ v e.
      rw e.0 (record { only = refl; a = refl; x = refl; bytes = subst IsBytes e.0 e.1 })) (zero_leads g a t placed on s b))

  one_leads : (fresh : ℕ) → IsPlaced (lines_of g a) → Leads g a (truth_code fresh) 100 t (HasTruth 1 t)
  one_leads fresh own =
      let s : Regs = apply false Lda 1 t.regs in
      let skipped : List Line = branch Bne (fresh + 1) ∷ ((Label fresh ∷ value Lda 0 ∷ []) ++ Label (fresh + 1) ∷ []) in
      leads_then g a (value Lda 1 ∷ []) (skipped ++ value Ldx 0 ∷ []) 1 99 t (To t s) (HasTruth 1 t) (load_leads 1 t.regs (omega arith) on.stacks.calm.bytes) (λ u h.
      leads_then g a skipped (value Ldx 0 ∷ []) 98 1 u (To t s) (HasTruth 1 t)
      (leads_from g a skipped 98 t u s (To t s) h (λ b. skip_leads g a own Bne (fresh + 1) (Label fresh ∷ value Lda 0 ∷ []) 96 (at_regs t s) (To t s) (on_regs g a t placed on s b) refl true refl (λ e. (refl, b)) (λ e. absurd (cc))))
      (λ v e. end_leads 1 v e))

  -- from the first label on
  zero_leads_on : (fresh : ℕ) → Leads g a (Label fresh ∷ value Lda 0 ∷ Label (fresh + 1) ∷ value Ldx 0 ∷ []) 100 t (HasTruth 0 t)
  zero_leads_on fresh =
      let s : Regs = apply false Lda 0 t.regs in
      leads_then g a (Label fresh ∷ []) (value Lda 0 ∷ Label (fresh + 1) ∷ value Ldx 0 ∷ []) 0 100 t (λ u. u ≡ t) (HasTruth 0 t) (label_leads g a fresh t (λ u. u ≡ t) refl) (λ u e.
      subst (λ z. Leads g a (value Lda 0 ∷ Label (fresh + 1) ∷ value Ldx 0 ∷ []) 100 z (HasTruth 0 t)) (sym e)
      (leads_then g a (value Lda 0 ∷ []) (Label (fresh + 1) ∷ value Ldx 0 ∷ []) 1 99 t (To t s) (HasTruth 0 t) (load_leads 0 t.regs (omega arith) on.stacks.calm.bytes) (λ v h.
      leads_then g a (Label (fresh + 1) ∷ []) (value Ldx 0 ∷ []) 0 99 v (To t s) (HasTruth 0 t) (label_leads g a (fresh + 1) v (To t s) h) (λ z h2.
      leads_as g a (value Ldx 0 ∷ []) 1 99 z (HasTruth 0 t) (HasTruth 0 t) (omega arith) (λ y h3. h3) (end_leads 0 z h2)))))

module _ (g : World) (a : Active) (m : Manner) (fresh needs pushed : ℕ) (lines : List Line) (placed : IsPlacement g.code g.place) (own : IsPlaced (lines_of g a)) (n weight p : ℕ) (k : List Item) (vs : List Value) (c : Scene) (w : Placing) (b : Banks) (t : State)
    (has : HasAt (lines_of g a) (p + length lines) (truth_code fresh)) (rest : RestIn g a m Valued (Number Int) n weight k vs (p + length (lines ++ truth_code fresh)) c w b t)
    (j : ℕ) (lt : j < n) (c2 : Scene) (w2 : Placing) (b2 : Banks) (u : State) (later : Seen) (ready : Ready g a pushed needs c2 w2 b2 u) (kept : Kept g a c w b t c2 w2 b2 u) (left : IsLeft m c t c2 u) where
  on : IsOn g u
  on = is_on g a pushed needs c2 w2 b2 u placed ready

  done : (v : Bool) (z : ℕ) (x : State) → z ≡ (if v then 1 else 0) → HasTruth z u x → Done g a Valued (Number Int) c w b t (Whole (truth v)) c2 w2 b2 x
  done v z x e h = record { kept = kept_goes_on g a c c2 c2 w w2 w2 b b2 b2 t u x kept (registers_kept g a pushed needs c2 w2 b2 u x placed ready h.only h.bytes); result = word v e; fits = in_int v }
    where
      word : (y : Bool) → z ≡ (if y then 1 else 0) → ResultIs Valued w2 Ax (Whole (truth y)) x
      word true f = omega (arith, f, h.a, h.x)
      word false f = omega (arith, f, h.a, h.x)

  gone : (x : State) (z : ℕ) → HasTruth z u x → IsLeft m c t c2 x
  gone x z h = left_then m c c2 c2 t u x left (left_held m c2 u x (registers_held u x h.only))

  ends : p + length lines + 6 ≡ p + length (lines ++ truth_code fresh)
  ends = omega (arith, length-append lines (truth_code fresh))

  valued : (v : Bool) → HasTurns g c2.turns (place_in g a (if beq v false then labelled (lines_of g a) fresh else p + length lines)) later
      → Follows g j (weight + 2700 + m.over) (Running k (Whole (truth v) ∷ vs) c2) (place_in g a (if beq v false then labelled (lines_of g a) fresh else p + length lines)) u later
  valued true turned =
      follows_weaken g j (100 + (weight + 2600 + m.over)) (weight + 2700 + m.over) (Running k (Whole (truth true) ∷ vs) c2) (place_in g a (p + length lines)) u later (omega arith)
      (one_leads g a u placed on fresh own j (weight + 2600 + m.over) (p + length lines) c2.turns (Running k (Whole (truth true) ∷ vs) c2) later has turned (λ x after h turned2.
      subst (λ q. Follows g j (weight + 2600 + m.over) (Running k (Whole (truth true) ∷ vs) c2) (place_in g a q) x after) (sym ends)
      (rest j (Whole (truth true)) c2 w2 b2 x after lt (done true 1 x refl h) (gone x 1 h) (subst (λ q. HasTurns g c2.turns (place_in g a q) after) ends turned2))))
  valued false turned =
      let to : labelled (lines_of g a) fresh ≡ p + length lines + 2 = own (p + length lines + 2) fresh (subst (λ q. HasAt (lines_of g a) q (Label fresh ∷ [])) two (has.1.1.0, tt)).0 in
      let has2 : HasAt (lines_of g a) (p + length lines + 2) (Label fresh ∷ value Lda 0 ∷ Label (fresh + 1) ∷ value Ldx 0 ∷ []) = subst (λ q. HasAt (lines_of g a) q (Label fresh ∷ value Lda 0 ∷ Label (fresh + 1) ∷ value Ldx 0 ∷ [])) two has.1.1 in
      let ends2 : p + length lines + 2 + 4 ≡ p + length (lines ++ truth_code fresh) = omega (arith, ends) in
      subst (λ q. Follows g j (weight + 2700 + m.over) (Running k (Whole (truth false) ∷ vs) c2) (place_in g a q) u later) (sym to)
      (follows_weaken g j (100 + (weight + 2600 + m.over)) (weight + 2700 + m.over) (Running k (Whole (truth false) ∷ vs) c2) (place_in g a (p + length lines + 2)) u later (omega arith)
      (zero_leads_on g a u placed on fresh j (weight + 2600 + m.over) (p + length lines + 2) c2.turns (Running k (Whole (truth false) ∷ vs) c2) later has2 (subst (λ q. HasTurns g c2.turns (place_in g a q) later) to turned) (λ x after h turned2.
      subst (λ q. Follows g j (weight + 2600 + m.over) (Running k (Whole (truth false) ∷ vs) c2) (place_in g a q) x after) (sym ends2)
      (rest j (Whole (truth false)) c2 w2 b2 x after lt (done false 0 x refl h) (gone x 0 h) (subst (λ q. HasTurns g c2.turns (place_in g a q) after) ends2 turned2)))))
    where
      two : suc (suc (p + length lines)) ≡ p + length lines + 2
      two = omega arith

pub truths_do : TruthsDo
truths_do g a m fresh needs pushed work lines placed own does n weight p k vs c w b t seen has r turns rest =
    does n weight p k vs c w b t seen (has_front (lines_of g a) p lines (truth_code fresh) has) r turns (λ j v c2 w2 b2 u later lt kept left turned.
    let ready = ready_stays g a pushed needs needs c c2 w w2 b b2 t u (omega arith) r kept in
    valued g a m fresh needs pushed lines placed own n weight p k vs c w b t (has_back (lines_of g a) p lines (truth_code fresh) has) rest j lt c2 w2 b2 u later ready kept left v turned)
