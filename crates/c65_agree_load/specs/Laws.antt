-- The lines that load a number's bytes.
use Rattle.std.specs.Prelude.{◌≡◌, ℕ, ◌+◌, ◌<◌, List, ◌∷◌, Ok, length}
use Rattle.c65_meaning.specs.Store as values
use Rattle.c65_meaning.specs.Store.{Value, Shape}
use Rattle.c65_meaning.specs.Fits.{Fits}
use Rattle.c65_meaning.specs.Items.{Item, Fetch}
use Rattle.c65_meaning.specs.State.{Scene, Running}
use Rattle.c65_meaning.specs.Step.{loaded}
use Rattle.c65_code.specs.LineState.{State}
use Rattle.c65_code.specs.Placement.{IsPlacement}
use Rattle.c65_code.specs.Comes.{Seen}
use Rattle.c65_genload.specs.declared.places.Access.TheVariants.{Whole}
use Rattle.c65_genload.specs.declared.places.Extent.{Extent}
use Rattle.c65_genload.specs.declared.places.Place.{Place}
use Rattle.c65_genload.specs.Places.{extent_of}
use Rattle.c65_genload.specs.Loads.{bytes_code, load_code}
use Rattle.c65_agree_store.specs.Stands.{Placing, Banks}
use Rattle.c65_agree_state.specs.World.{World, Active, lines_of, place_in, HasAt, HasTurns}
use Rattle.c65_agree_state.specs.Follows.{Follows}
use Rattle.c65_agree_state.specs.Exprs.{Ready, Kept, Valued, ResultIs, width_in}
use Rattle.c65_agree_places.specs.Places.{spot_in}
use Rattle.c65_agree_put.specs.Laws.{IsScalar}
use Rattle.c65_agree_assign.specs.Places.{kind_in}
use Rattle.c65_agree_frame.specs.Leads.{Leads}
use Rattle.c65_agree_load.specs.Loads.{CanLoad, IsNear, IsLoaded, bytes_of, IsKeptThere, IsMeantThere}

-- From regbank, near sp, at a symbol, or behind the address in AX: the bytes are in A, AX or EAX, and all is kept that an expression keeps.
abbrev pub BytesAreLoaded : Type 0
BytesAreLoaded = (g : World) (a : Active) (pushed needs : ℕ) (c : Scene) (w : Placing) (k : Banks) (t : State) (place : Place) (extent : Extent)
    → IsPlacement g.code g.place → Ready g a pushed needs c w k t → CanLoad g t (spot_in g a t place) (bytes_of extent) → IsNear place → IsKeptThere place extent
    → Leads g a (bytes_code place extent) 270 t (λ u. Kept g a c w k t c w k u × IsLoaded extent (spot_in g a t place) t u)

-- The step that fetches the value of an object, at the lines that load it: where it has a value, that fits and is in its register, a
-- character in all of AX (C90 6.2.2.1).
abbrev pub FetchesAreFollowed : Type 0
FetchesAreFollowed = (g : World) (a : Active) (pushed needs : ℕ) (place : Place) (f : Shape) (c : Scene) (w : Placing) (k : Banks) (t : State) (b o n weight p : ℕ) (work : List Item) (vs : List Value) (seen : Seen)
    → IsPlacement g.code g.place → HasAt (lines_of g a) p (load_code place (Whole (kind_in f))) → Ready g a pushed needs c w k t
    → IsScalar f → IsNear place → IsKeptThere place (extent_of (kind_in f)) → IsMeantThere g a c w t place b o → HasTurns g c.turns (place_in g a p) seen
    → ((j : ℕ) (v : Value) (u : State) (after : Seen) → j < n → Kept g a c w k t c w k u → ResultIs Valued w (width_in f) v u → Fits f v → loaded f c (values.Place b o) ≡ Ok v
    → HasTurns g c.turns (place_in g a (p + length (load_code place (Whole (kind_in f))))) after
    → Follows g j (weight + 3470) (Running work (v ∷ vs) c) (place_in g a (p + length (load_code place (Whole (kind_in f))))) u after)
    → Follows g n weight (Running (Fetch f ∷ work) (values.Place b o ∷ vs) c) (place_in g a p) t seen
