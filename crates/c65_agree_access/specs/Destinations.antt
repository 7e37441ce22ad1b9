-- Where the lines of an assignment store (C90 6.3.16).
use Rattle.std.specs.Prelude.{ℕ, ◌+◌, ◌<◌, ◌≤◌, List, ◌∷◌, length}
use Rattle.c65_meaning.specs.Store as values
use Rattle.c65_meaning.specs.Store.{Value}
use Rattle.c65_meaning.specs.Items.{Item}
use Rattle.c65_meaning.specs.State.{Scene, Running}
use Rattle.c65_code.specs.declared.line.Line.{Line}
use Rattle.c65_code.specs.LineState.{State}
use Rattle.c65_code.specs.Comes.{Seen}
use Rattle.c65_genload.specs.declared.places.Extent.{Extent}
use Rattle.c65_genload.specs.declared.places.Place.{Place}
use Rattle.c65_genload.specs.declared.places.Place.TheVariants.{Bank}
use Rattle.c65_agree_store.specs.Stands.{Placing, Banks}
use Rattle.c65_agree_state.specs.World.{World, Active, lines_of, place_in, HasAt, HasTurns}
use Rattle.c65_agree_state.specs.Follows.{Follows}
use Rattle.c65_agree_state.specs.Exprs.{Ready, Kept}
use Rattle.c65_agree_assign.specs.Places.{bytes_in, MayHold}
use Rattle.c65_agree_structures.specs.Bases.{IsStanding}

-- in regbank among the bytes that the function's frame takes
abbrev pub IsInBank : Active → Place → ℕ → Type 0
IsInBank a (Bank at) n = at + n ≤ a.frame.bank
IsInBank a place n = Unit {0}

-- if the value is a place, its block stands where the lines may store so many bytes that the generator's place tells
abbrev pub IsToldFor : World → Active → Place → Extent → Scene → Placing → State → Value → Type 0
IsToldFor g a place extent c w t (values.Place b o) = IsStanding g a c w t place b o × MayHold place extent × IsInBank a place (bytes_in extent)
IsToldFor g a place extent c w t v = Unit {0}

module _ (g : World) (a : Active) where
  -- lines do the work of a tree, and behind them its place is told for a store
  abbrev pub TellsFor : (List Item → List Item) → ℕ → ℕ → Place → Extent → List Line → Type 0
  TellsFor work needs pushed place extent lines = (n w p : ℕ) (k : List Item) (vs : List Value) (c : Scene) (q : Placing) (b : Banks) (t : State) (seen : Seen)
      → HasAt (lines_of g a) p lines → Ready g a pushed needs c q b t → HasTurns g c.turns (place_in g a p) seen
      → ((j : ℕ) (v : Value) (c2 : Scene) (q2 : Placing) (b2 : Banks) (u : State) (later : Seen)
      → j < n → Kept g a c q b t c2 q2 b2 u → IsToldFor g a place extent c2 q2 u v → HasTurns g c2.turns (place_in g a (p + length lines)) later
      → Follows g j (w + 2600) (Running k (v ∷ vs) c2) (place_in g a (p + length lines)) u later)
      → Follows g n w (Running (work k) vs c) (place_in g a p) t seen
