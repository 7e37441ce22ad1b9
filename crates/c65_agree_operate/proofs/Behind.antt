-- One step of the meaning behind a part, and the lines that do it.
use Rattle.std.proofs.Common.{◌≡◌, ℕ, ◌+◌, ◌<◌, ◌≤◌, List, ◌∷◌, ◌++◌, length, refl, sym, subst, arith, length-append}
use Rattle.std.specs.Prelude.{Result, Ok, Err}
use Rattle.c65_meaning.specs.Why.{Why}
use Rattle.c65_meaning.specs.Store.{Store, Value, Shape}
use Rattle.c65_meaning.specs.Items.{Item}
use Rattle.c65_meaning.specs.State.{Scene, Running}
use Rattle.c65_meaning.specs.Step.{go_on, perform}
use Rattle.c65_code.specs.declared.line.Line.{Line}
use Rattle.c65_code.specs.LineState.{State}
use Rattle.c65_code.specs.Comes.{Seen}
use Rattle.c65_agree_store.specs.Stands.{Placing, Banks}
use Rattle.c65_agree_state.specs.World.{World, program_in, Active, lines_of, place_in, HasAt, HasTurns}
use Rattle.c65_agree_state.specs.Follows.{Follows}
use Rattle.c65_agree_state.specs.Exprs.{Ready, Yield, Valued, MayFit, ResultIs, Kept, Done, width_in}
use Rattle.c65_agree_state.proofs.Followed.{follows_weaken, steps_earn, ready_is_calm}
use Rattle.c65_agree_state.proofs.Nodes.{has_front, has_back, ready_stays}
use Rattle.c65_agree_state.proofs.Parts.{kept_goes_on}
use Rattle.c65_agree_rows.proofs.Quiet.{nothing_follows}
use Rattle.c65_agree_frame.specs.Leads.{Leads}
use Rattle.c65_agree_operate.specs.Manners.{Manner, IsLeft, RestIn, DoesIn}
use Rattle.c65_agree_operate.proofs.Manners.{left_then}

-- all is kept, the value is in its register, and so much is left as it was
pub record IsGiven (g : World) (a : Active) (m : Manner) (shape : Shape) (c : Scene) (w : Placing) (b : Banks) (t : State) (v : Value) (u : State) : Type 0 where
  pub kept : Kept g a c w b t c w b u
  pub result : ResultIs Valued w (width_in shape) v u
  pub left : IsLeft m c t c u

module _ (g : World) (a : Active) (m : Manner) (yield : Yield) (f h : Shape) (work : List Item → List Item) (needs pushed : ℕ) (lines ls : List Line) (i : Item) (few : m.over ≤ 1000) (gives : Store → Value → Result Value Why)
    (performs : (k : List Item) (vs : List Value) (c : Scene) (v : Value) → perform (program_in g) i k (v ∷ vs) c ≡ go_on (gives c.store v) k vs c)
    (fits : (s : Store) (v v2 : Value) → MayFit yield f v → gives s v ≡ Ok v2 → MayFit Valued h v2)
    (leads : (c : Scene) (w : Placing) (b : Banks) (u : State) (v v2 : Value) → Ready g a pushed needs c w b u → ResultIs yield w (width_in f) v u → MayFit yield f v → gives c.store v ≡ Ok v2 → Leads g a ls 2560 u (IsGiven g a m h c w b u v2)) where
  module _ (n weight p : ℕ) (k : List Item) (vs : List Value) (c : Scene) (w : Placing) (b : Banks) (t : State) (has : HasAt (lines_of g a) (p + length lines) ls) (rest : RestIn g a m Valued h n weight k vs (p + length (lines ++ ls)) c w b t)
      (j : ℕ) (lt : j < n) (v : Value) (c2 : Scene) (w2 : Placing) (b2 : Banks) (u : State) (later : Seen) (ready : Ready g a pushed needs c2 w2 b2 u) (done : Done g a yield f c w b t v c2 w2 b2 u) (left : IsLeft m c t c2 u) (turned : HasTurns g c2.turns (place_in g a (p + length lines)) later) where
    ends : p + length lines + length ls ≡ p + length (lines ++ ls)
    ends = omega (arith, length-append lines ls)

    stepped : (o : ℕ) → o < j → (s : Result Value Why) → gives c2.store v ≡ s → Follows g o (weight + 2600 + m.over + 4000) (go_on s k vs c2) (place_in g a (p + length lines)) u later
    stepped o less (Err why) e = nothing_follows g why o (weight + 2600 + m.over + 4000) (place_in g a (p + length lines)) u later
    stepped o less (Ok v2) e =
        follows_weaken g o (2560 + (weight + 2600 + m.over)) (weight + 2600 + m.over + 4000) (Running k (v2 ∷ vs) c2) (place_in g a (p + length lines)) u later (omega (arith, few))
        (leads c2 w2 b2 u v v2 ready done.result done.fits e o (weight + 2600 + m.over) (p + length lines) c2.turns (Running k (v2 ∷ vs) c2) later has turned (λ x after s turned2.
        let both : Done g a Valued h c w b t v2 c2 w2 b2 x = record { kept = kept_goes_on g a c c2 c2 w w2 w2 b b2 b2 t u x done.kept s.kept; result = s.result; fits = fits c2.store v v2 done.fits e } in
        subst (λ q. Follows g o (weight + 2600 + m.over) (Running k (v2 ∷ vs) c2) (place_in g a q) x after) (sym ends)
        (rest o v2 c2 w2 b2 x after (omega (arith, lt, less)) both (left_then m c c2 c2 t u x left s.left) (subst (λ q. HasTurns g c2.turns (place_in g a q) after) ends turned2))))

  pub then_does : DoesIn g a m yield f work needs pushed lines → DoesIn g a m Valued h (λ k. work (i ∷ k)) needs pushed (lines ++ ls)
  then_does does n weight p k vs c w b t seen has r turns rest =
      does n weight p (i ∷ k) vs c w b t seen (has_front (lines_of g a) p lines ls has) r turns (λ j v c2 w2 b2 u later lt done left turned.
      let ready = ready_stays g a pushed needs needs c c2 w w2 b b2 t u (omega arith) r done.kept in
      steps_earn g j (weight + 2600 + m.over) i k (v ∷ vs) c2 (place_in g a (p + length lines)) u later (ready_is_calm g a pushed needs c2 w2 b2 u ready).calm ready.joins.output ready.joins.ended (omega (arith, turned)) (λ o less.
      subst (λ s. Follows g o (weight + 2600 + m.over + 4000) s (place_in g a (p + length lines)) u later) (sym (performs k vs c2 v))
      (stepped n weight p k vs c w b t (has_back (lines_of g a) p lines ls has) rest j lt v c2 w2 b2 u later ready done left turned o less (gives c2.store v) refl)))
