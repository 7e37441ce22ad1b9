-- The step of an operator behind both operands.
use Rattle.std.proofs.Common.{◌≡◌, ℕ, ◌+◌, ◌<◌, ◌≤◌, List, ◌∷◌, length, ℤ, false, refl, sym, ap, subst, arith}
use Rattle.std.specs.Prelude.{Result, Ok, Err}
use Rattle.c65_base.specs.declared.operators.BinaryOp.{BinaryOp}
use Rattle.c65_ints.specs.declared.types.IntType.{IntType}
use Rattle.c65_ints.specs.Ranges.{InRange}
use Rattle.c65_meaning.specs.Why.{Why}
use Rattle.c65_meaning.specs.Store.{Value, Whole, Number}
use Rattle.c65_meaning.specs.Items.{Item, Apply2}
use Rattle.c65_meaning.specs.Operators.{calculated, binary}
use Rattle.c65_meaning.specs.State.{Scene, Running}
use Rattle.c65_meaning.specs.Step.{go_on}
use Rattle.c65_code.specs.declared.line.Line.{Line}
use Rattle.c65_code.specs.LineState.{State}
use Rattle.c65_code.specs.Comes.{Seen}
use Rattle.c65_genwide.specs.Wide.{is_comparison}
use Rattle.c65_agree_store.specs.Stands.{Placing, Banks}
use Rattle.c65_agree_numbers.specs.Words.{word_of}
use Rattle.c65_agree_state.specs.World.{World, Active, lines_of, place_in, HasAt, HasTurns}
use Rattle.c65_agree_state.specs.Follows.{Follows}
use Rattle.c65_agree_state.specs.Exprs.{Ready, Valued, MayFit, Kept, Done}
use Rattle.c65_agree_state.proofs.Followed.{follows_weaken, steps_earn, ready_is_calm}
use Rattle.c65_agree_state.proofs.Parts.{kept_goes_on}
use Rattle.c65_agree_rows.proofs.Quiet.{nothing_follows}
use Rattle.c65_agree_frame.specs.Leads.{Leads}
use Rattle.c65_agree_operate.specs.Manners.{Manner, IsLeft, RestIn}
use Rattle.c65_agree_operate.proofs.Manners.{left_then}
use Rattle.c65_agree_operate.proofs.Given.{IsCalculated, is_calculated, result_in}
use Rattle.c65_agree_operate.proofs.Lefts.{HasWord}

-- the operands began at the state s, and both values are there at the state u
module _ (g : World) (a : Active) (m : Manner) (op : BinaryOp) (t r : IntType) (few : m.over ≤ 1000) (plain : is_comparison op ≡ false) (pushed needs n weight end at : ℕ) (ls : List Line) (ends : at + length ls ≡ end) (k : List Item) (vs : List Value) (c : Scene) (w : Placing) (b : Banks) (s : State)
    (rest : RestIn g a m Valued (Number t) n weight k vs end c w b s) (has : HasAt (lines_of g a) at ls) (c2 : Scene) (w2 : Placing) (b2 : Banks) (u : State) (ready : Ready g a pushed needs c2 w2 b2 u) (kept : Kept g a c w b s c2 w2 b2 u) (left : IsLeft m c s c2 u) (va vb : Value) (fit : MayFit Valued (Number t) va) (fit2 : MayFit Valued (Number r) vb)
    (leads : (p q z : ℤ) → va ≡ Whole p → vb ≡ Whole q → InRange t p → InRange r q → calculated op t p q ≡ Ok (Whole z) → Leads g a ls 2560 u (HasWord g a m t c2 w2 b2 u (word_of t z)))
    (seen : Seen) (turned : HasTurns g c2.turns (place_in g a at) seen) (more : ℕ) (enough : weight + 1160 + m.over ≤ more) where
  of_numbers : (o : ℕ) → o < n → (x : Value) → IsCalculated op t va vb x → Follows g o (more + 4000) (Running k (x ∷ vs) c2) (place_in g a at) u seen
  of_numbers o lt x h =
      let fits1 : InRange t h.a = subst (MayFit Valued (Number t)) h.left fit in
      let fits2 : InRange r h.b = subst (MayFit Valued (Number r)) h.right fit2 in
      let value : Running k (Whole h.z ∷ vs) c2 ≡ Running k (x ∷ vs) c2 = ap (λ v. Running k (v ∷ vs) c2) (sym h.result) in
      subst (λ z. Follows g o (more + 4000) z (place_in g a at) u seen) value
      (follows_weaken g o (2560 + (weight + 2600 + m.over)) (more + 4000) (Running k (Whole h.z ∷ vs) c2) (place_in g a at) u seen (omega (arith, enough))
      (leads h.a h.b h.z h.left h.right fits1 fits2 h.is o (weight + 2600 + m.over) at c2.turns (Running k (Whole h.z ∷ vs) c2) seen has turned (λ y after d turned2.
      let both : Done g a Valued (Number t) c w b s (Whole h.z) c2 w2 b2 y = record { kept = kept_goes_on g a c c2 c2 w w2 w2 b b2 b2 s u y kept d.kept; result = d.word; fits = result_in op t h.a h.b h.z plain fits1 h.is } in
      subst (λ q. Follows g o (weight + 2600 + m.over) (Running k (Whole h.z ∷ vs) c2) (place_in g a q) y after) (sym ends)
      (rest o (Whole h.z) c2 w2 b2 y after lt both (left_then m c c2 c2 s u y left d.left) (subst (λ q. HasTurns g c2.turns (place_in g a q) after) ends turned2)))))

  stepped : (o : ℕ) → o < n → (x : Result Value Why) → binary c2.store op (Number t) (Number r) va vb ≡ x → Follows g o (more + 4000) (go_on x k vs c2) (place_in g a at) u seen
  stepped o lt (Err why) e = nothing_follows g why o (more + 4000) (place_in g a at) u seen
  stepped o lt (Ok x) e = of_numbers o lt x (is_calculated c2.store op t r va vb x e)

  pub last_follows : (i : ℕ) → i ≤ n → Follows g i more (Running (Apply2 op (Number t) (Number r) ∷ k) (vb ∷ va ∷ vs) c2) (place_in g a at) u seen
  last_follows i le =
      steps_earn g i more (Apply2 op (Number t) (Number r)) k (vb ∷ va ∷ vs) c2 (place_in g a at) u seen (ready_is_calm g a pushed needs c2 w2 b2 u ready).calm ready.joins.output ready.joins.ended (omega (arith, turned)) (λ o less.
      stepped o (omega (arith, le, less)) (binary c2.store op (Number t) (Number r) va vb) refl)
