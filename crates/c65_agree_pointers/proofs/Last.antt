-- The step of an operator behind both operands, whatever their shapes are.
use Rattle.std.proofs.Common.{◌≡◌, ℕ, ◌+◌, ◌<◌, ◌≤◌, List, ◌∷◌, length, refl, sym, subst, arith}
use Rattle.std.specs.Prelude.{Result, Ok, Err}
use Rattle.c65_base.specs.declared.operators.BinaryOp.{BinaryOp}
use Rattle.c65_meaning.specs.Why.{Why}
use Rattle.c65_meaning.specs.Store.{Value, Shape}
use Rattle.c65_meaning.specs.Items.{Item, Apply2}
use Rattle.c65_meaning.specs.Operators.{binary}
use Rattle.c65_meaning.specs.State.{Scene, Running}
use Rattle.c65_meaning.specs.Step.{go_on}
use Rattle.c65_code.specs.declared.line.Line.{Line}
use Rattle.c65_code.specs.LineState.{State}
use Rattle.c65_code.specs.Comes.{Seen}
use Rattle.c65_agree_store.specs.Stands.{Placing, Banks}
use Rattle.c65_agree_state.specs.World.{World, Active, lines_of, place_in, HasAt, HasTurns}
use Rattle.c65_agree_state.specs.Follows.{Follows}
use Rattle.c65_agree_state.specs.Exprs.{Ready, Valued, Done}
use Rattle.c65_agree_state.proofs.Followed.{follows_weaken, steps_earn, ready_is_calm}
use Rattle.c65_agree_rows.proofs.Quiet.{nothing_follows}
use Rattle.c65_agree_frame.specs.Leads.{Leads}
use Rattle.c65_agree_operate.specs.Manners.{Manner, IsLeft, RestIn}

-- the operator's value is there, and so much is left as it was
pub record IsEnded (g : World) (a : Active) (m : Manner) (r : Shape) (c : Scene) (w : Placing) (b : Banks) (s : State) (x : Value) (c2 : Scene) (w2 : Placing) (b2 : Banks) (u : State) : Type 0 where
  pub done : Done g a Valued r c w b s x c2 w2 b2 u
  pub left : IsLeft m c s c2 u

-- the operands began at the state s, and both values are there at the state u
module _ (g : World) (a : Active) (m : Manner) (op : BinaryOp) (f h r : Shape) (n weight end at cost pushed needs : ℕ) (ls : List Line) (ends : at + length ls ≡ end) (k : List Item) (vs : List Value) (c : Scene) (w : Placing) (b : Banks) (s : State)
    (rest : RestIn g a m Valued r n weight k vs end c w b s) (has : HasAt (lines_of g a) at ls) (c2 : Scene) (w2 : Placing) (b2 : Banks) (u : State) (ready : Ready g a pushed needs c2 w2 b2 u) (va vb : Value)
    (leads : (x : Value) → binary c2.store op f h va vb ≡ Ok x → Leads g a ls cost u (IsEnded g a m r c w b s x c2 w2 b2))
    (seen : Seen) (turned : HasTurns g c2.turns (place_in g a at) seen) (more : ℕ) (enough : cost + (weight + 2600 + m.over) ≤ more + 4000) where
  stepped : (o : ℕ) → o < n → (x : Result Value Why) → binary c2.store op f h va vb ≡ x → Follows g o (more + 4000) (go_on x k vs c2) (place_in g a at) u seen
  stepped o lt (Err why) e = nothing_follows g why o (more + 4000) (place_in g a at) u seen
  stepped o lt (Ok x) e =
      follows_weaken g o (cost + (weight + 2600 + m.over)) (more + 4000) (Running k (x ∷ vs) c2) (place_in g a at) u seen enough
      (leads x e o (weight + 2600 + m.over) at c2.turns (Running k (x ∷ vs) c2) seen has turned (λ y after d turned2.
      subst (λ q. Follows g o (weight + 2600 + m.over) (Running k (x ∷ vs) c2) (place_in g a q) y after) (sym ends)
      (rest o x c2 w2 b2 y after lt d.done d.left (subst (λ q. HasTurns g c2.turns (place_in g a q) after) ends turned2))))

  pub last_follows : (i : ℕ) → i ≤ n → Follows g i more (Running (Apply2 op f h ∷ k) (vb ∷ va ∷ vs) c2) (place_in g a at) u seen
  last_follows i le =
      steps_earn g i more (Apply2 op f h) k (vb ∷ va ∷ vs) c2 (place_in g a at) u seen (ready_is_calm g a pushed needs c2 w2 b2 u ready).calm ready.joins.output ready.joins.ended (omega (arith, turned)) (λ o less.
      stepped o (omega (arith, le, less)) (binary c2.store op f h va vb) refl)
