-- Tests in a manner, and what is known where a branch of theirs was taken: the machine has just come to the label, which may be the head
-- of a loop.
use Rattle.std.specs.Prelude.{◌≡◌, ℕ, ◌+◌, ◌<◌, if◌then◌else◌, Bool, List, ◌∷◌, length}
use Rattle.std.specs.Bool.{beq}
use Rattle.c65_meaning.specs.Integers.{truth as truth_number}
use Rattle.c65_meaning.specs.Store.{Value, Whole, Shape}
use Rattle.c65_meaning.specs.Items.{Item}
use Rattle.c65_meaning.specs.State.{Scene, Running}
use Rattle.c65_code.specs.declared.line.Line.{Line}
use Rattle.c65_code.specs.LineState.{State}
use Rattle.c65_code.specs.Moves.{labelled}
use Rattle.c65_code.specs.Comes.{Seen}
use Rattle.c65_agree_store.specs.Stands.{Placing, Banks}
use Rattle.c65_agree_state.specs.World.{World, Active, lines_of, place_in, HasAt, HasTurns, HasBranched}
use Rattle.c65_agree_state.specs.Follows.{Follows}
use Rattle.c65_agree_state.specs.Exprs.{Ready, Valued, MayFit, Kept, Tells}
use Rattle.c65_agree_operate.specs.Manners.{Manner, IsLeft}

-- the line behind a test: that of its label, or the one behind its lines
abbrev pub end_of : World → Active → Bool → ℕ → ℕ → ℕ
end_of g a taken to p = if taken then labelled (lines_of g a) to else p

module _ (g : World) (a : Active) (m : Manner) where
  -- behind a test, at its label or behind its lines
  abbrev pub RestOfBranch : Shape → Bool → ℕ → ℕ → ℕ → ℕ → List Item → List Value → Scene → Placing → Banks → State → Type 0
  RestOfBranch shape s to n w p k vs c q b t = (j : ℕ) (v : Value) (taken : Bool) (c2 : Scene) (q2 : Placing) (b2 : Banks) (u : State) (seen : Seen)
      → j < n → Kept g a c q b t c2 q2 b2 u → MayFit Valued shape v → Tells c2.store v s taken → IsLeft m c t c2 u
      → HasBranched g taken c2.turns (place_in g a (end_of g a taken to p)) seen
      → Follows g j (w + 2600 + m.over) (Running k (v ∷ vs) c2) (place_in g a (end_of g a taken to p)) u seen

  -- the lines test a value: where its truth is s they lead to the label
  abbrev pub BranchesIn : Shape → Bool → ℕ → (List Item → List Item) → ℕ → ℕ → List Line → Type 0
  BranchesIn shape s to work needs pushed lines = (n w p : ℕ) (k : List Item) (vs : List Value) (c : Scene) (q : Placing) (b : Banks) (t : State) (seen : Seen)
      → HasAt (lines_of g a) p lines → Ready g a pushed needs c q b t → HasTurns g c.turns (place_in g a p) seen
      → RestOfBranch shape s to n w (p + length lines) k vs c q b t
      → Follows g n w (Running (work k) vs c) (place_in g a p) t seen

  -- behind the test of a value that is 1 or 0
  abbrev pub RestOfSettled : Bool → ℕ → ℕ → ℕ → ℕ → List Item → List Value → Scene → Placing → Banks → State → Type 0
  RestOfSettled s to n w p k vs c q b t = (j : ℕ) (truth : Bool) (c2 : Scene) (q2 : Placing) (b2 : Banks) (u : State) (seen : Seen)
      → j < n → Kept g a c q b t c2 q2 b2 u → IsLeft m c t c2 u
      → HasBranched g (beq truth s) c2.turns (place_in g a (end_of g a (beq truth s) to p)) seen
      → Follows g j (w + 2700 + m.over) (Running k (Whole (truth_number truth) ∷ vs) c2) (place_in g a (end_of g a (beq truth s) to p)) u seen

  -- the lines test such a value; of the weight that they hand on a hundred is for lines that bring it to AX
  abbrev pub SettlesIn : Bool → ℕ → (List Item → List Item) → ℕ → ℕ → List Line → Type 0
  SettlesIn s to work needs pushed lines = (n w p : ℕ) (k : List Item) (vs : List Value) (c : Scene) (q : Placing) (b : Banks) (t : State) (seen : Seen)
      → HasAt (lines_of g a) p lines → Ready g a pushed needs c q b t → HasTurns g c.turns (place_in g a p) seen
      → RestOfSettled s to n w (p + length lines) k vs c q b t
      → Follows g n w (Running (work k) vs c) (place_in g a p) t seen
