-- What holds of structures and unions that are passed and given.
use Rattle.std.specs.Prelude.{ℕ}
use Rattle.c65_meaning.specs.State.{Scene}
use Rattle.c65_code.specs.LineState.{State}
use Rattle.c65_code.specs.Placement.{IsPlacement}
use Rattle.c65_genload.specs.declared.places.Extent.{Extent}
use Rattle.c65_genload.specs.declared.places.Place.{Place}
use Rattle.c65_genload.specs.Loads.{bytes_code}
use Rattle.c65_agree_store.specs.Stands.{Placing, Banks}
use Rattle.c65_agree_state.specs.World.{World, Active}
use Rattle.c65_agree_state.specs.Exprs.{Ready, Kept}
use Rattle.c65_agree_places.specs.Places.{spot_in}
use Rattle.c65_agree_frame.specs.Leads.{Leads}
use Rattle.c65_agree_load.specs.Loads.{CanLoad, IsNear, bytes_of}
use Rattle.c65_agree_structures.specs.Areas.{HasBytes, IsInMemory}

-- From near sp, at a symbol, or behind the address in AX, from 1 to 4 bytes come to A, A and X, or these with sreg, and all is kept that an
-- expression keeps.
abbrev pub AreasAreLoaded : Type 0
AreasAreLoaded = (g : World) (a : Active) (pushed needs : ℕ) (c : Scene) (w : Placing) (k : Banks) (t : State) (place : Place) (extent : Extent)
    → IsPlacement g.code g.place → Ready g a pushed needs c w k t → CanLoad g t (spot_in g a t place) (bytes_of extent) → IsNear place → IsInMemory place
    → Leads g a (bytes_code place extent) 270 t (λ u. Kept g a c w k t c w k u × HasBytes (bytes_of extent) (spot_in g a t place) t u)
