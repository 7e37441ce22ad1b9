-- The lines before those that load, which bring what tells a place (C90 6.3.2.3, 6.3.3.2).
use Rattle.std.specs.Prelude.{◌≡◌, ℕ, ◌+◌, ◌<◌, false, List, ◌∷◌, Some, length}
use Rattle.c65_ctype.specs.Trees.{QTy}
use Rattle.c65_csem.specs.Trees.{Typed, node, object}
use Rattle.c65_csem.specs.Places.{is_place}
use Rattle.c65_csem_need.specs.Needs.{need}
use Rattle.c65_meaning.specs.Store as values
use Rattle.c65_meaning.specs.Store.{Value, Area}
use Rattle.c65_meaning.specs.Items.{Item, plan}
use Rattle.c65_meaning.specs.State.{Scene, Running}
use Rattle.c65_code.specs.declared.line.Line.{Line}
use Rattle.c65_code.specs.LineState.{State}
use Rattle.c65_code.specs.Placement.{IsPlacement}
use Rattle.c65_code.specs.Comes.{Seen}
use Rattle.c65_genframe.specs.declared.home.Home.TheVariants as homes
use Rattle.c65_genframe.specs.Frames.{home_of}
use Rattle.c65_genload.specs.declared.places.Place.{Place}
use Rattle.c65_genexpr.specs.declared.destination.Destination.TheVariants.{Registers}
use Rattle.c65_genexpr.specs.Places.{place_of}
use Rattle.c65_genexpr.specs.Code.{base_code}
use Rattle.c65_agree_store.specs.Stands.{Spot, Placing, Banks}
use Rattle.c65_agree_state.specs.World.{World, unit_in, Active, lines_of, place_in, HasAt, HasTurns}
use Rattle.c65_agree_state.specs.Follows.{Follows}
use Rattle.c65_agree_state.specs.Exprs.{Ready, Kept, shape_in, ExpressionDoes}
use Rattle.c65_agree_load.specs.Loads.{IsNear, IsMeantThere}
use Rattle.c65_agree_load.specs.Objects.{IsHomed}
use Rattle.c65_agree_structures.specs.Areas.{IsInMemory}

-- a block has a place, and while it lives that is where the generator's place tells
abbrev pub IsStanding : World → Active → Scene → Placing → State → Place → ℕ → ℕ → Type 0
IsStanding g a c w t place b o = ((q : Spot) × (w b ≡ Some q)) × IsMeantThere g a c w t place b o

-- if the value is a place, its block stands where the lines may load that the generator's place tells
abbrev pub IsToldBy : World → Active → Place → Scene → Placing → State → Value → Type 0
IsToldBy g a place c w t (values.Place b o) = IsStanding g a c w t place b o × IsNear place × IsInMemory place
IsToldBy g a place c w t v = Unit {0}

module _ (g : World) (a : Active) where
  -- lines do the work of a tree, and behind them its place is told
  abbrev pub TellsPlace : (List Item → List Item) → ℕ → ℕ → Place → List Line → Type 0
  TellsPlace work needs pushed place lines = (n w p : ℕ) (k : List Item) (vs : List Value) (c : Scene) (q : Placing) (b : Banks) (t : State) (seen : Seen)
      → HasAt (lines_of g a) p lines → Ready g a pushed needs c q b t → HasTurns g c.turns (place_in g a p) seen
      → ((j : ℕ) (v : Value) (c2 : Scene) (q2 : Placing) (b2 : Banks) (u : State) (later : Seen)
      → j < n → Kept g a c q b t c2 q2 b2 u → IsToldBy g a place c2 q2 u v → HasTurns g c2.turns (place_in g a (p + length lines)) later
      → Follows g j (w + 2600) (Running k (v ∷ vs) c2) (place_in g a (p + length lines)) u later)
      → Follows g n w (Running (work k) vs c) (place_in g a p) t seen

  -- so do the lines of a tree's base
  abbrev pub BaseDoes : Typed → Type 0
  BaseDoes e = (pushed fresh : ℕ) → TellsPlace (plan (unit_in g) e) (need e) pushed (place_of a.frame pushed e) (base_code a.frame pushed fresh Registers e)

-- Of a structure or union that is no name, target or member, as one that `,`, `?:`, an assignment or a call gives, the address is in AX.
abbrev pub AddressesAreBases : Type 0
AddressesAreBases = (g : World) (a : Active) (size : ℕ) (e : Typed) → is_place e ≡ false → shape_in g a e ≡ Area size → ExpressionDoes g a e → BaseDoes g a e

-- An object that is known takes no lines; of one that lies far above sp the address is in AX.
abbrev pub ObjectsAreBases : Type 0
ObjectsAreBases = (g : World) (a : Active) (t : QTy) (i : ℕ) → IsPlacement g.code g.place → a.frame.parts ≡ g.parts → IsHomed g a i → ((b : ℕ) → home_of a.frame i ≡ Some (homes.Bank b) → ⊥)
    → BaseDoes g a (node t (object i))
