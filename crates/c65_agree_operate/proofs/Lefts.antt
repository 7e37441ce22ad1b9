-- Operators whose right operand takes no lines: those of the left one are gone through, and then those of the operator.
use Rattle.std.proofs.Common.{◌≡◌, ℕ, ◌+◌, ◌<◌, ◌≤◌, max, List, ◌∷◌, ◌++◌, length, ℤ, refl, sym, ap, subst, arith, length-append, false}
use Rattle.std.specs.Prelude.{Result, Ok, Err}
use Rattle.c65_base.specs.declared.operators.BinaryOp.{BinaryOp}
use Rattle.c65_ints.specs.declared.types.IntType.{IntType}
use Rattle.c65_ints.specs.Ranges.{InRange}
use Rattle.c65_meaning.specs.Why.{Why}
use Rattle.c65_meaning.specs.Store.{Value, Whole, Number}
use Rattle.c65_meaning.specs.Fits.{Fits}
use Rattle.c65_meaning.specs.Items.{Item, Apply2}
use Rattle.c65_meaning.specs.Operators.{calculated, binary}
use Rattle.c65_meaning.specs.State.{Scene, Running}
use Rattle.c65_meaning.specs.Step.{go_on}
use Rattle.c65_code.specs.declared.line.Line.{Line}
use Rattle.c65_code.specs.LineState.{Place as Spot, State}
use Rattle.c65_code.specs.Rows.{primary_of}
use Rattle.c65_code.specs.Comes.{Seen}
use Rattle.c65_genwide.specs.Wide.{width_of, is_comparison}
use Rattle.c65_agree_store.specs.Stands.{Placing, Banks}
use Rattle.c65_agree_numbers.specs.Words.{word_of}
use Rattle.c65_agree_state.specs.World.{World, Active, lines_of, place_in, HasAt, HasTurns}
use Rattle.c65_agree_state.specs.Follows.{Follows}
use Rattle.c65_agree_state.specs.Exprs.{Ready, Valued, MayFit, ResultIs, Kept, Done}
use Rattle.c65_agree_state.proofs.Followed.{follows_weaken, steps_earn, ready_is_calm}
use Rattle.c65_agree_state.proofs.Nodes.{has_front, has_back, ready_stays}
use Rattle.c65_agree_state.proofs.Parts.{kept_goes_on}
use Rattle.c65_agree_rows.proofs.Quiet.{nothing_follows}
use Rattle.c65_agree_frame.specs.Leads.{Leads}
use Rattle.c65_agree_operate.specs.Manners.{Manner, IsLeft, RestIn, DoesIn}
use Rattle.c65_agree_operate.specs.Laws.{on_numbers}
use Rattle.c65_agree_operate.proofs.Manners.{left_then}
use Rattle.c65_agree_operate.proofs.Given.{IsCalculated, is_calculated, result_in}

-- all is kept, the primary register has the word, and so much is left as it was
pub record HasWord (g : World) (a : Active) (m : Manner) (t : IntType) (c : Scene) (w : Placing) (b : Banks) (u : State) (n : ℕ) (x : State) : Type 0 where
  pub kept : Kept g a c w b u c w b x
  pub word : primary_of (width_of t) x ≡ n
  pub left : IsLeft m c u c x

-- The work of the right operand takes no lines, and its value is so.
abbrev pub TakesNone : World → Active → ℕ → IntType → (List Item → List Item) → (Scene → Placing → State → Value → Type 0) → Type 0
TakesNone g a pushed r second IsSo = (needs n weight : ℕ) (k : List Item) (vs : List Value) (c : Scene) (w : Placing) (b : Banks) (p : Spot) (t : State) (seen : Seen)
    → Ready g a pushed needs c w b t → HasTurns g c.turns p seen
    → ((j : ℕ) (v : Value) → j < n → Fits (Number r) v → IsSo c w t v → Follows g j (weight + 4000) (Running k (v ∷ vs) c) p t seen)
    → Follows g n weight (Running (second k) vs c) p t seen

module _ (g : World) (a : Active) (m : Manner) (op : BinaryOp) (t r : IntType) (needs more_needs pushed : ℕ) (first second : List Item → List Item) (left ls : List Line) (few : m.over ≤ 1000) (plain : is_comparison op ≡ false)
    (IsSo : Scene → Placing → State → Value → Type 0) (none : TakesNone g a pushed r second IsSo)
    (leads : (c : Scene) (w : Placing) (b : Banks) (u : State) (p q z : ℤ) → Ready g a pushed more_needs c w b u → primary_of (width_of t) u ≡ word_of t p → IsSo c w u (Whole q) → InRange t p → InRange r q → calculated op t p q ≡ Ok (Whole z) → Leads g a ls 2560 u (HasWord g a m t c w b u (word_of t z))) where
  -- behind the left operand, which began at the state s
  module _ (n weight p : ℕ) (k : List Item) (vs : List Value) (c : Scene) (w : Placing) (b : Banks) (s : State) (rest : RestIn g a m Valued (Number t) n weight k vs (p + length (left ++ ls)) c w b s) (has : HasAt (lines_of g a) (p + length left) ls)
      (c1 : Scene) (w1 : Placing) (b1 : Banks) (s1 : State) (va : Value) (done1 : Done g a Valued (Number t) c w b s va c1 w1 b1 s1) (left1 : IsLeft m c s c1 s1) (ready1 : Ready g a pushed more_needs c1 w1 b1 s1) (seen : Seen) (turned : HasTurns g c1.turns (place_in g a (p + length left)) seen)
      (vb : Value) (fit : Fits (Number r) vb) (so : IsSo c1 w1 s1 vb) where
    ends : p + length left + length ls ≡ p + length (left ++ ls)
    ends = omega (arith, length-append left ls)

    of_numbers : (o : ℕ) → o < n → (x : Value) → IsCalculated op t va vb x → Follows g o (weight + 2600 + m.over + 4000 + 4000) (Running k (x ∷ vs) c1) (place_in g a (p + length left)) s1 seen
    of_numbers o lt x h =
        let fits1 : InRange t h.a = subst (MayFit Valued (Number t)) h.left done1.fits in
        let fits2 : InRange r h.b = subst (Fits (Number r)) h.right fit in
        let result1 : primary_of (width_of t) s1 ≡ word_of t h.a = subst (λ v. ResultIs Valued w1 (width_of t) v s1) h.left done1.result in
        let so2 : IsSo c1 w1 s1 (Whole h.b) = subst (IsSo c1 w1 s1) h.right so in
        let value : Running k (Whole h.z ∷ vs) c1 ≡ Running k (x ∷ vs) c1 = ap (λ v. Running k (v ∷ vs) c1) (sym h.result) in
        subst (λ z. Follows g o (weight + 2600 + m.over + 4000 + 4000) z (place_in g a (p + length left)) s1 seen) value
        (follows_weaken g o (2560 + (weight + 2600 + m.over)) (weight + 2600 + m.over + 4000 + 4000) (Running k (Whole h.z ∷ vs) c1) (place_in g a (p + length left)) s1 seen (omega (arith, few))
        (leads c1 w1 b1 s1 h.a h.b h.z ready1 result1 so2 fits1 fits2 h.is o (weight + 2600 + m.over) (p + length left) c1.turns (Running k (Whole h.z ∷ vs) c1) seen has turned (λ y after d turned2.
        let fit3 : InRange t h.z = result_in op t h.a h.b h.z plain fits1 h.is in
        let both : Done g a Valued (Number t) c w b s (Whole h.z) c1 w1 b1 y = record { kept = kept_goes_on g a c c1 c1 w w1 w1 b b1 b1 s s1 y done1.kept d.kept; result = d.word; fits = fit3 } in
        subst (λ q. Follows g o (weight + 2600 + m.over) (Running k (Whole h.z ∷ vs) c1) (place_in g a q) y after) (sym ends)
        (rest o (Whole h.z) c1 w1 b1 y after lt both (left_then m c c1 c1 s s1 y left1 d.left) (subst (λ q. HasTurns g c1.turns (place_in g a q) after) ends turned2)))))

    stepped : (o : ℕ) → o < n → (x : Result Value Why) → binary c1.store op (Number t) (Number r) va vb ≡ x → Follows g o (weight + 2600 + m.over + 4000 + 4000) (go_on x k vs c1) (place_in g a (p + length left)) s1 seen
    stepped o lt (Err why) e = nothing_follows g why o (weight + 2600 + m.over + 4000 + 4000) (place_in g a (p + length left)) s1 seen
    stepped o lt (Ok x) e = of_numbers o lt x (is_calculated c1.store op t r va vb x e)

    followed : (i : ℕ) → i ≤ n → Follows g i (weight + 2600 + m.over + 4000) (Running (Apply2 op (Number t) (Number r) ∷ k) (vb ∷ va ∷ vs) c1) (place_in g a (p + length left)) s1 seen
    followed i le =
        steps_earn g i (weight + 2600 + m.over + 4000) (Apply2 op (Number t) (Number r)) k (vb ∷ va ∷ vs) c1 (place_in g a (p + length left)) s1 seen (ready_is_calm g a pushed more_needs c1 w1 b1 s1 ready1).calm ready1.joins.output ready1.joins.ended (omega (arith, turned)) (λ o less.
        stepped o (omega (arith, le, less)) (binary c1.store op (Number t) (Number r) va vb) refl)

  pub left_does : DoesIn g a m Valued (Number t) first needs pushed left → DoesIn g a m Valued (Number t) (on_numbers op t r first second) (max needs (1 + more_needs)) pushed (left ++ ls)
  left_does before n weight p k vs c w b s seen has ready turns rest =
      let ready0 : Ready g a pushed needs c w b s = record { joins = ready.joins; sp = ready.sp; room = omega (arith, ready.room); none_pushed = ready.none_pushed } in
      before n weight p (second (Apply2 op (Number t) (Number r) ∷ k)) vs c w b s seen (has_front (lines_of g a) p left ls has) ready0 turns (λ j va c1 w1 b1 s1 seen1 lt done1 left1 turned1.
      let ready1 : Ready g a pushed more_needs c1 w1 b1 s1 = ready_stays g a pushed (max needs (1 + more_needs)) more_needs c c1 w w1 b b1 s s1 (omega arith) ready done1.kept in
      none more_needs j (weight + 2600 + m.over) (Apply2 op (Number t) (Number r) ∷ k) (va ∷ vs) c1 w1 b1 (place_in g a (p + length left)) s1 seen1 ready1 turned1 (λ i vb lt2 fit so.
      followed n weight p k vs c w b s rest (has_back (lines_of g a) p left ls has) c1 w1 b1 s1 va done1 left1 ready1 seen1 turned1 vb fit so i (omega (arith, lt, lt2))))
