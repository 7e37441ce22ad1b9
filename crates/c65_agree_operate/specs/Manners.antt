-- What the lines of some trees leave as it is, beside what those of each tree keep: a tree that changes nothing leaves its scene, and
-- the lines of a light one leave ptr2, where an operand of an operator may wait.
use Rattle.std.specs.Prelude.{◌≡◌, ℕ, ◌+◌, ◌<◌, if◌then◌else◌, Bool, true, false, List, ◌∷◌, length}
use Rattle.std.specs.Bool.{beq}
use Rattle.c65_meaning.specs.Integers.{truth as truth_number}
use Rattle.c65_meaning.specs.Store.{Value, Whole, Shape}
use Rattle.c65_meaning.specs.Items.{Item}
use Rattle.c65_meaning.specs.State.{Scene, Running}
use Rattle.c65_code.specs.declared.line.Line.{Line}
use Rattle.c65_code.specs.LineState.{State}
use Rattle.c65_code.specs.Moves.{labelled}
use Rattle.c65_code.specs.Comes.{Seen}
use Rattle.c65_agree_store.specs.Stands.{Placing, Banks}
use Rattle.c65_agree_state.specs.World.{World, Active, lines_of, place_in, HasAt, HasTurns}
use Rattle.c65_agree_state.specs.Follows.{Follows}
use Rattle.c65_agree_state.specs.Exprs.{Ready, Yield, Valued, MayFit, Kept, Done, Tells}

-- whether a tree is pure, which changes nothing, whether its lines are light, and how much weight they hand on beside the usual 2,600
pub record Manner : Type 0 where
  pub pure : Bool
  pub light : Bool
  pub over : ℕ

-- that of a tree of which nothing is known
abbrev pub usual : Manner
usual = record { pure = false; light = false; over = 0 }

-- this holds where that is so
abbrev pub Where : Bool → Type 0 → Type 0
Where true P = P
Where false P = Unit {0}

-- the two bytes of ptr2 stay
pub record IsHeld (t u : State) : Type 0 where
  pub low : u.zp 10 ≡ t.zp 10
  pub high : u.zp 11 ≡ t.zp 11

-- between the scene and state before a tree and those behind it
pub record IsLeft (m : Manner) (c : Scene) (t : State) (c2 : Scene) (u : State) : Type 0 where
  pub scene : Where m.pure (c2 ≡ c)
  pub held : Where m.light (IsHeld t u)

module _ (g : World) (a : Active) (m : Manner) where
  -- wherever the expression ends, so much left as it was, the rest is followed
  abbrev pub RestIn : Yield → Shape → ℕ → ℕ → List Item → List Value → ℕ → Scene → Placing → Banks → State → Type 0
  RestIn yield shape n w k vs p c q b t = (j : ℕ) (v : Value) (c2 : Scene) (q2 : Placing) (b2 : Banks) (u : State) (seen : Seen)
      → j < n → Done g a yield shape c q b t v c2 q2 b2 u → IsLeft m c t c2 u → HasTurns g c2.turns (place_in g a p) seen
      → Follows g j (w + 2600 + m.over) (Running k (v ∷ vs) c2) (place_in g a p) u seen

  -- the lines, wherever they stand in the function, do the work in this manner
  abbrev pub DoesIn : Yield → Shape → (List Item → List Item) → ℕ → ℕ → List Line → Type 0
  DoesIn yield shape work needs pushed lines = (n w p : ℕ) (k : List Item) (vs : List Value) (c : Scene) (q : Placing) (b : Banks) (t : State) (seen : Seen)
      → HasAt (lines_of g a) p lines → Ready g a pushed needs c q b t → HasTurns g c.turns (place_in g a p) seen
      → RestIn yield shape n w k vs (p + length lines) c q b t
      → Follows g n w (Running (work k) vs c) (place_in g a p) t seen

  -- the same behind a test, at its label or behind its lines
  abbrev pub RestOfTestIn : Shape → Bool → ℕ → ℕ → ℕ → ℕ → List Item → List Value → Scene → Placing → Banks → State → Type 0
  RestOfTestIn shape s to n w p k vs c q b t = (j : ℕ) (v : Value) (taken : Bool) (c2 : Scene) (q2 : Placing) (b2 : Banks) (u : State) (seen : Seen)
      → j < n → Kept g a c q b t c2 q2 b2 u → MayFit Valued shape v → Tells c2.store v s taken → IsLeft m c t c2 u
      → HasTurns g c2.turns (place_in g a (if taken then labelled (lines_of g a) to else p)) seen
      → Follows g j (w + 2600 + m.over) (Running k (v ∷ vs) c2) (place_in g a (if taken then labelled (lines_of g a) to else p)) u seen

  -- the lines test a value: where its truth is s they lead to the label
  abbrev pub TestsIn : Shape → Bool → ℕ → (List Item → List Item) → ℕ → ℕ → List Line → Type 0
  TestsIn shape s to work needs pushed lines = (n w p : ℕ) (k : List Item) (vs : List Value) (c : Scene) (q : Placing) (b : Banks) (t : State) (seen : Seen)
      → HasAt (lines_of g a) p lines → Ready g a pushed needs c q b t → HasTurns g c.turns (place_in g a p) seen
      → RestOfTestIn shape s to n w (p + length lines) k vs c q b t
      → Follows g n w (Running (work k) vs c) (place_in g a p) t seen

  -- behind the test of a value that is 1 or 0
  abbrev pub RestOfTruth : Bool → ℕ → ℕ → ℕ → ℕ → List Item → List Value → Scene → Placing → Banks → State → Type 0
  RestOfTruth s to n w p k vs c q b t = (j : ℕ) (truth : Bool) (c2 : Scene) (q2 : Placing) (b2 : Banks) (u : State) (seen : Seen)
      → j < n → Kept g a c q b t c2 q2 b2 u → IsLeft m c t c2 u
      → HasTurns g c2.turns (place_in g a (if beq truth s then labelled (lines_of g a) to else p)) seen
      → Follows g j (w + 2700 + m.over) (Running k (Whole (truth_number truth) ∷ vs) c2) (place_in g a (if beq truth s then labelled (lines_of g a) to else p)) u seen

  -- the lines test such a value; of the weight that they hand on a hundred is for lines that bring it to AX
  abbrev pub DecidesIn : Bool → ℕ → (List Item → List Item) → ℕ → ℕ → List Line → Type 0
  DecidesIn s to work needs pushed lines = (n w p : ℕ) (k : List Item) (vs : List Value) (c : Scene) (q : Placing) (b : Banks) (t : State) (seen : Seen)
      → HasAt (lines_of g a) p lines → Ready g a pushed needs c q b t → HasTurns g c.turns (place_in g a p) seen
      → RestOfTruth s to n w (p + length lines) k vs c q b t
      → Follows g n w (Running (work k) vs c) (place_in g a p) t seen
