-- A number or a pointer that is loaded from a place that is told without a sum.
use Rattle.std.proofs.Common.{ℕ, ◌+◌, List, ◌∷◌, sym, subst, arith}
use Rattle.std.specs.Prelude.{length}
use Rattle.c65_ctype.specs.Trees.{TypesTy, type_in}
use Rattle.c65_meaning.specs.Store.{Shape}
use Rattle.c65_meaning.specs.Items.{Item, Fetch, plan}
use Rattle.c65_meaning.specs.Shapes.{shape_of}
use Rattle.c65_meaning.specs.State.{Running}
use Rattle.c65_code.specs.Placement.{IsPlacement}
use Rattle.c65_genload.specs.declared.places.Access.TheVariants.{Whole}
use Rattle.c65_genload.specs.declared.places.Place.{Place}
use Rattle.c65_genload.specs.declared.places.Place.TheVariants.{Bank, Near, Data, Far}
use Rattle.c65_genload.specs.Places.{extent_of}
use Rattle.c65_genload.specs.Loads.{load_code}
use Rattle.c65_agree_state.specs.World.{World, unit_in, Active, place_in}
use Rattle.c65_agree_state.specs.Exprs.{Valued, Does}
use Rattle.c65_agree_state.proofs.Followed.{follows_weaken}
use Rattle.c65_agree_put.specs.Laws.{IsScalar}
use Rattle.c65_agree_assign.specs.Places.{kind_in}
use Rattle.c65_agree_load.specs.Loads.{IsNear, IsKeptThere}
use Rattle.c65_agree_load.proofs.Fetched.{fetches_are_followed}
use Rattle.c65_agree_direct.specs.Laws.{KnownPlacesAreLoaded}
use Rattle.c65_agree_direct.proofs.Spots.{IsKnown, IsTold}
use Rattle.c65_agree_direct.proofs.Places.{PlaceIsRead, places_are_read}
use Rattle.c65_agree_direct.proofs.Trees.{load_kind}
use Rattle.c65_agree_put.proofs.Fits.{may_fit}

near_told : (place : Place) → IsKnown place → IsTold place → IsNear place
near_told (Bank at) known told = tt
near_told (Near at) known told = told
near_told (Data s at) known told = told
near_told (Far at) known told = absurd known

-- the work of a place, and the lines of its load
loads_do : (g : World) (a : Active) (pushed needs : ℕ) (f : Shape) (work : List Item → List Item) (place : Place) → IsPlacement g.code g.place → IsScalar f → IsKnown place → IsKeptThere place (extent_of (kind_in f)) → PlaceIsRead g a pushed work place
    → Does g a Valued f (λ k. work (Fetch f ∷ k)) needs pushed (load_code place (Whole (kind_in f)))
loads_do g a pushed needs f work place placed scalar known kept_there whole n weight p k vs c w b t seen has r turns rest =
    whole needs n weight (Fetch f ∷ k) vs c w b (place_in g a p) t seen r turns (λ j m o lt lies.
    fetches_are_followed g a pushed needs place f c w b t m o j (weight + 4000) p k vs seen placed has r scalar (near_told place known lies.told) kept_there lies.meant turns (λ h v u after less kept result fits e later.
    follows_weaken g h (weight + 2600) (weight + 4000 + 3470) (Running k (v ∷ vs) c) (place_in g a (p + length (load_code place (Whole (kind_in f))))) u after (omega arith)
    (rest h v c w b u after (omega (arith, lt, less)) (record { kept = kept; result = result; fits = may_fit f v scalar fits }) later)))

pub known_places_are_loaded : KnownPlacesAreLoaded
known_places_are_loaded g a pushed needs t e place kind placed frame typed is kept_there =
    let us : TypesTy = (unit_in g).types in
    let f : Shape = shape_of us (type_in t) in
    let h = load_kind g a pushed placed frame t e place kind typed is in
    let whole : PlaceIsRead g a pushed (plan (unit_in g) e) place = subst (PlaceIsRead g a pushed (plan (unit_in g) e)) h.lies (places_are_read g a pushed frame e h.plain typed.0 (subst IsKnown (sym h.lies) h.known)) in
    let kept : IsKeptThere place (extent_of (kind_in f)) = subst (λ x. IsKeptThere place (extent_of x)) h.same kept_there in
    subst (λ x. Does g a Valued f (λ k. plan (unit_in g) e (Fetch x ∷ k)) needs pushed (load_code place (Whole kind))) (sym h.shape)
    (subst (λ x. Does g a Valued f (λ k. plan (unit_in g) e (Fetch f ∷ k)) needs pushed (load_code place (Whole x))) (sym h.same)
    (loads_do g a pushed needs f (plan (unit_in g) e) place placed h.scalar h.known kept whole))
