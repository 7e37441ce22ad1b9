-- The step of a comparison behind both sides, and lines that lead to its label or behind them.
use Rattle.std.proofs.Common.{◌≡◌, ℕ, ◌+◌, ◌<◌, ◌≤◌, List, ◌∷◌, length, ℤ, Bool, true, refl, sym, ap, ◌∙◌, subst, arith}
use Rattle.std.specs.Prelude.{Result, Ok, Err}
use Rattle.std.specs.Bool.{beq}
use Rattle.c65_base.specs.declared.operators.BinaryOp.{BinaryOp}
use Rattle.c65_ints.specs.declared.types.IntType.{IntType}
use Rattle.c65_ints.specs.Ranges.{InRange}
use Rattle.c65_meaning.specs.Why.{Why}
use Rattle.c65_meaning.specs.Integers.{truth}
use Rattle.c65_meaning.specs.Store.{Value, Whole, Number}
use Rattle.c65_meaning.specs.Items.{Item, Apply2}
use Rattle.c65_meaning.specs.Operators.{calculated, binary}
use Rattle.c65_meaning.specs.State.{Scene, Running}
use Rattle.c65_meaning.specs.Step.{go_on}
use Rattle.c65_code.specs.declared.line.Line.{Line}
use Rattle.c65_code.specs.LineState.{State}
use Rattle.c65_code.specs.Placement.{IsPlacement}
use Rattle.c65_code.specs.Comes.{Seen}
use Rattle.c65_genwide.specs.Wide.{is_comparison}
use Rattle.c65_agree_store.specs.Stands.{Placing, Banks}
use Rattle.c65_agree_state.specs.World.{World, Active, lines_of, place_in, HasAt, HasTurns, HasBranched}
use Rattle.c65_agree_state.specs.Follows.{Follows}
use Rattle.c65_agree_state.specs.Exprs.{Ready, Valued, MayFit, Kept}
use Rattle.c65_agree_state.proofs.Followed.{follows_weaken, steps_earn, ready_is_calm}
use Rattle.c65_agree_state.proofs.Parts.{kept_goes_on}
use Rattle.c65_agree_rows.proofs.Quiet.{nothing_follows}
use Rattle.c65_agree_operate.specs.Manners.{Manner, IsLeft}
use Rattle.c65_agree_operate.proofs.Manners.{left_then, left_held}
use Rattle.c65_agree_operate.proofs.Given.{IsCalculated, is_calculated}
use Rattle.c65_agree_operate.proofs.Exact.{registers_kept, registers_held}
use Rattle.c65_agree_compare.specs.Branches.{end_of, RestOfSettled}
use Rattle.c65_agree_compare.proofs.Ways.{LeadsBy}
use Rattle.c65_agree_compare.proofs.Stacked.{compared}
use Rattle.c65_agree_compare.proofs.Equal.{OnlyRegs}

-- the sides began at the state r, and both values are there at the state u
module _ (g : World) (a : Active) (m : Manner) (op : BinaryOp) (t : IntType) (s : Bool) (to : ℕ) (placed : IsPlacement g.code g.place) (compares : is_comparison op ≡ true) (pushed needs n weight end at : ℕ) (ls : List Line) (ends : at + length ls ≡ end) (k : List Item) (vs : List Value) (c : Scene) (w : Placing) (b : Banks) (r : State)
    (rest : RestOfSettled g a m s to n weight end k vs c w b r) (has : HasAt (lines_of g a) at ls) (c2 : Scene) (w2 : Placing) (b2 : Banks) (u : State) (ready : Ready g a pushed needs c2 w2 b2 u) (kept : Kept g a c w b r c2 w2 b2 u) (left : IsLeft m c r c2 u) (va vb : Value) (fit : MayFit Valued (Number t) va) (fit2 : MayFit Valued (Number t) vb)
    (leads : (p q : ℤ) (y : Bool) → va ≡ Whole p → vb ≡ Whole q → InRange t p → InRange t q → calculated op t p q ≡ Ok (Whole (truth y)) → LeadsBy g a ls 60 to (beq y s) u (OnlyRegs u))
    (seen : Seen) (turned : HasTurns g c2.turns (place_in g a at) seen) (more : ℕ) (enough : weight + m.over ≤ more) where
  of_numbers : (o : ℕ) → o < n → (x : Value) → IsCalculated op t va vb x → Follows g o (more + 4000) (Running k (x ∷ vs) c2) (place_in g a at) u seen
  of_numbers o lt x h =
      let fits1 : InRange t h.a = subst (MayFit Valued (Number t)) h.left fit in
      let fits2 : InRange t h.b = subst (MayFit Valued (Number t)) h.right fit2 in
      let truth_is = compared op t h.a h.b h.z compares h.is in
      let y : Bool = truth_is.0 in
      let value : Running k (Whole (truth y) ∷ vs) c2 ≡ Running k (x ∷ vs) c2 = ap (λ v. Running k (v ∷ vs) c2) (ap Whole (sym truth_is.1) ∙ sym h.result) in
      let gives : calculated op t h.a h.b ≡ Ok (Whole (truth y)) = h.is ∙ ap (λ v. Ok (Whole v)) truth_is.1 in
      subst (λ z. Follows g o (more + 4000) z (place_in g a at) u seen) value
      (follows_weaken g o (60 + (weight + 2700 + m.over)) (more + 4000) (Running k (Whole (truth y) ∷ vs) c2) (place_in g a at) u seen (omega (arith, enough))
      (leads h.a h.b y h.left h.right fits1 fits2 gives o (weight + 2700 + m.over) at c2.turns (Running k (Whole (truth y) ∷ vs) c2) seen has turned (λ x2 after only come.
      let all = kept_goes_on g a c c2 c2 w w2 w2 b b2 b2 r u x2 kept (registers_kept g a pushed needs c2 w2 b2 u x2 placed ready only.0 only.1) in
      let gone = left_then m c c2 c2 r u x2 left (left_held m c2 u x2 (registers_held u x2 only.0)) in
      subst (λ q. Follows g o (weight + 2700 + m.over) (Running k (Whole (truth y) ∷ vs) c2) (place_in g a (end_of g a (beq y s) to q)) x2 after) (sym ends)
      (rest o y c2 w2 b2 x2 after lt all gone (subst (λ q. HasBranched g (beq y s) c2.turns (place_in g a (end_of g a (beq y s) to q)) after) ends come)))))

  stepped : (o : ℕ) → o < n → (x : Result Value Why) → binary c2.store op (Number t) (Number t) va vb ≡ x → Follows g o (more + 4000) (go_on x k vs c2) (place_in g a at) u seen
  stepped o lt (Err why) e = nothing_follows g why o (more + 4000) (place_in g a at) u seen
  stepped o lt (Ok x) e = of_numbers o lt x (is_calculated c2.store op t t va vb x e)

  pub settled_follows : (i : ℕ) → i ≤ n → Follows g i more (Running (Apply2 op (Number t) (Number t) ∷ k) (vb ∷ va ∷ vs) c2) (place_in g a at) u seen
  settled_follows i le =
      steps_earn g i more (Apply2 op (Number t) (Number t)) k (vb ∷ va ∷ vs) c2 (place_in g a at) u seen (ready_is_calm g a pushed needs c2 w2 b2 u ready).calm ready.joins.output ready.joins.ended (omega (arith, turned)) (λ o less.
      stepped o (omega (arith, le, less)) (binary c2.store op (Number t) (Number t) va vb) refl)
