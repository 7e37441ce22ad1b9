-- The step that fetches a value, behind the lines that tell its place.
use Rattle.std.proofs.Common.{◌≡◌, ℕ, ◌+◌, ◌<◌, ◌≤◌, List, ◌∷◌, ◌++◌, refl, arith}
use Rattle.std.specs.Prelude.{Result, Ok, Err, length}
use Rattle.c65_ints.specs.declared.types.IntType.{IntType}
use Rattle.c65_ints.specs.declared.types.IntType.TheVariants as I
use Rattle.c65_meaning.specs.Why.{Why}
use Rattle.c65_meaning.specs.Store as values
use Rattle.c65_meaning.specs.Store.{Value, Whole, Null, Opaque, Cells, NoValue, Shape, read}
use Rattle.c65_meaning.specs.Fits.{Fits}
use Rattle.c65_meaning.specs.Operators.{unusable}
use Rattle.c65_meaning.specs.Items.{Item, Fetch}
use Rattle.c65_meaning.specs.State.{Scene, Running}
use Rattle.c65_meaning.specs.Step.{loaded, go_on}
use Rattle.c65_code.specs.declared.line.Line.{Line}
use Rattle.c65_code.specs.LineState.{State, ax_of}
use Rattle.c65_code.specs.Placement.{IsPlacement}
use Rattle.c65_code.specs.Comes.{Seen}
use Rattle.c65_genwide.specs.Wide.{narrow_code}
use Rattle.c65_genload.specs.declared.places.Access.TheVariants as access
use Rattle.c65_genload.specs.declared.places.Extent.{Extent}
use Rattle.c65_genload.specs.declared.places.Extent.TheVariants.{One, Two, Three, Four}
use Rattle.c65_genload.specs.declared.places.Place.{Place}
use Rattle.c65_genload.specs.declared.places.Place.TheVariants.{Bank, Near, Data, Far}
use Rattle.c65_genload.specs.Places.{extent_of}
use Rattle.c65_genload.specs.Loads.{load_code}
use Rattle.c65_gendirect.specs.Pointed.{behind_pointer_code}
use Rattle.c65_genexpr.specs.declared.destination.Destination.TheVariants.{Pointer}
use Rattle.c65_genexpr.specs.Destination.{destination_by, pointed_code}
use Rattle.c65_agree_store.specs.Stands.{Spot, At, Placing, Banks}
use Rattle.c65_agree_state.specs.World.{World, Active, lines_of, place_in, HasAt, HasTurns}
use Rattle.c65_agree_state.specs.Follows.{Follows}
use Rattle.c65_agree_state.specs.Exprs.{Ready, Kept, Valued, ResultIs, width_in}
use Rattle.c65_agree_state.proofs.Followed.{follows_weaken, steps_earn, ready_is_calm}
use Rattle.c65_agree_state.proofs.Parts.{kept_goes_on}
use Rattle.c65_agree_rows.proofs.Quiet.{nothing_follows}
use Rattle.c65_agree_put.specs.Laws.{IsScalar}
use Rattle.c65_agree_assign.specs.Places.{kind_in}
use Rattle.c65_agree_frame.specs.Leads.{Leads}
use Rattle.c65_agree_frame.proofs.Leads.{leads_then, leads_as}
use Rattle.c65_agree_load.specs.Loads.{CanLoad, IsKeptThere, bytes_of}
use Rattle.c65_agree_load.proofs.Fetched.{Narrowed, narrow_leads, fits, can, result, fetched}
use Rattle.c65_agree_structures.specs.Areas.{IsInMemory}
use Rattle.c65_agree_structures.specs.Bases.{IsToldBy}
use Rattle.c65_agree_access.specs.Pointed.{with_pointer}
use Rattle.c65_agree_access.proofs.Members.{pointer_ready}
use Rattle.c65_agree_access.proofs.Behind.{kept_from_view, IsBehind, one_behind, two_behind}

-- ---- the lines

-- what they leave
abbrev pub IsFetched : World → Active → Shape → Scene → Placing → Banks → State → Value → State → Type 0
IsFetched g a f c w k t v u = Kept g a c w k t c w k u × ResultIs Valued w (width_in f) v u

-- no number has three bytes
kept_in_memory : (place : Place) (kind : IntType) → IsInMemory place → IsKeptThere place (extent_of kind)
kept_in_memory (Bank b) kind memory = absurd memory
kept_in_memory (Near at) I.SChar memory = tt
kept_in_memory (Near at) I.UChar memory = tt
kept_in_memory (Near at) I.Short memory = tt
kept_in_memory (Near at) I.UShort memory = tt
kept_in_memory (Near at) I.Int memory = tt
kept_in_memory (Near at) I.UInt memory = tt
kept_in_memory (Near at) I.Long memory = tt
kept_in_memory (Near at) I.ULong memory = tt
kept_in_memory (Data s at) I.SChar memory = tt
kept_in_memory (Data s at) I.UChar memory = tt
kept_in_memory (Data s at) I.Short memory = tt
kept_in_memory (Data s at) I.UShort memory = tt
kept_in_memory (Data s at) I.Int memory = tt
kept_in_memory (Data s at) I.UInt memory = tt
kept_in_memory (Data s at) I.Long memory = tt
kept_in_memory (Data s at) I.ULong memory = tt
kept_in_memory (Far at) I.SChar memory = tt
kept_in_memory (Far at) I.UChar memory = tt
kept_in_memory (Far at) I.Short memory = tt
kept_in_memory (Far at) I.UShort memory = tt
kept_in_memory (Far at) I.Int memory = tt
kept_in_memory (Far at) I.UInt memory = tt
kept_in_memory (Far at) I.Long memory = tt
kept_in_memory (Far at) I.ULong memory = tt

module _ (g : World) (a : Active) (pushed needs : ℕ) (f : Shape) (c : Scene) (w : Placing) (k : Banks) (t : State) (placed : IsPlacement g.code g.place) (r : Ready g a pushed needs c w k t) (scalar : IsScalar f) (m o : ℕ) (v : Value) (e : read f c.store m o ≡ Ok v) where
  abbrev kind : IntType
  kind = kind_in f

  -- by the address in AX
  pub registers_fetch : (place : Place) → IsToldBy g a place c w t (values.Place m o) → Fits f v × Leads g a (load_code place (access.Whole kind)) 526 t (IsFetched g a f c w k t v)
  registers_fetch place told =
      (fits g a pushed needs place f c w k t m o placed r scalar told.0.1 v e, fetched g a pushed needs place f c w k t m o placed r scalar told.0.1 v e told.1 (kept_in_memory place kind told.2))

  -- by the one in ptr1
  abbrev view : State
  view = with_pointer t

  abbrev view_ready : Ready g a pushed needs c w k view
  view_ready = pointer_ready g a pushed needs c w k t placed r

  bytes_behind : (at : ℕ) (small : at ≤ 250) (extent : Extent) → destination_by extent ≡ Pointer → CanLoad g view (At (ax_of view + at)) (bytes_of extent) → Leads g a (behind_pointer_code at extent) 270 t (IsBehind g a pushed needs c w k t placed r at small extent)
  bytes_behind at small One d may = one_behind g a pushed needs c w k t placed r at small may
  bytes_behind at small Two d may = two_behind g a pushed needs c w k t placed r at small may
  bytes_behind at small Three d may = absurd cc
  bytes_behind at small Four d may = absurd cc

  far_fetch : (at : ℕ) → destination_by (extent_of kind) ≡ Pointer → IsToldBy g a (Far at) c w view (values.Place m o) → Fits f v × Leads g a (behind_pointer_code at (extent_of kind) ++ narrow_code kind) 526 t (IsFetched g a f c w k t v)
  far_fetch at d told =
      let spot : Spot = At (ax_of view + at) in (
        fits g a pushed needs (Far at) f c w k view m o placed view_ready scalar told.0.1 v e,
        leads_then g a (behind_pointer_code at (extent_of kind)) (narrow_code kind) 270 256 t (IsBehind g a pushed needs c w k t placed r at told.1 (extent_of kind)) (IsFetched g a f c w k t v)
            (bytes_behind at told.1 (extent_of kind) d (can g a pushed needs (Far at) f c w k view m o placed view_ready scalar told.0.1 v e)) (λ u h.
            leads_as g a (narrow_code kind) 256 256 u (Narrowed g a pushed needs c w k view placed view_ready spot kind u) (IsFetched g a f c w k t v) (omega arith)
            (λ x y. (kept_goes_on g a c c c w w w k k k t u x (kept_from_view g a c w k t u h.0) y.0, result g a pushed needs (Far at) f c w k view m o placed view_ready scalar told.0.1 v e x y.1))
            (narrow_leads g a pushed needs c w k view placed view_ready spot kind u h.0 h.1)),
      )

  pub pointer_fetch : (place : Place) → destination_by (extent_of kind) ≡ Pointer → IsToldBy g a place c w view (values.Place m o) → Fits f v × Leads g a (pointed_code place kind) 526 t (IsFetched g a f c w k t v)
  pointer_fetch (Bank b) d told = absurd told.2
  pointer_fetch (Near at) d told = registers_fetch (Near at) ((told.0.0, λ x q is. told.0.1 x q is), told.1, tt)
  pointer_fetch (Data s at) d told = registers_fetch (Data s at) ((told.0.0, λ x q is. told.0.1 x q is), told.1, tt)
  pointer_fetch (Far at) d told = far_fetch at d told

-- ---- the step

-- such lines behind a place, and nothing that is defined behind another value
pub fetch_follows : (g : World) (a : Active) (pushed needs : ℕ) (f : Shape) (c : Scene) (w : Placing) (k : Banks) (t : State) (v : Value) (Loaded : Value → State → Type 0) (ls : List Line) (n weight p : ℕ) (work : List Item) (vs : List Value) (seen : Seen)
    → HasAt (lines_of g a) p ls → Ready g a pushed needs c w k t → HasTurns g c.turns (place_in g a p) seen
    → ((m o : ℕ) (x : Value) → v ≡ values.Place m o → read f c.store m o ≡ Ok x → Fits f x × Leads g a ls 526 t (Loaded x))
    → ((j : ℕ) (x : Value) (u : State) (after : Seen) → j < n → Fits f x → Loaded x u → HasTurns g c.turns (place_in g a (p + length ls)) after
    → Follows g j (weight + 3470) (Running work (x ∷ vs) c) (place_in g a (p + length ls)) u after)
    → Follows g n weight (Running (Fetch f ∷ work) (v ∷ vs) c) (place_in g a p) t seen
fetch_follows g a pushed needs f c w k t v Loaded ls n weight p work vs seen has r turns loads behind =
    steps_earn g n weight (Fetch f) work (v ∷ vs) c (place_in g a p) t seen (ready_is_calm g a pushed needs c w k t r).calm r.joins.output r.joins.ended (omega (arith, turns)) (λ j lt. by_value j lt v refl)
  where
    go : (j : ℕ) → j < n → (m o : ℕ) → v ≡ values.Place m o → (s : Result Value Why) → read f c.store m o ≡ s → Follows g j (weight + 4000) (go_on s work vs c) (place_in g a p) t seen
    go j lt m o is (Err why) e = nothing_follows g why j (weight + 4000) (place_in g a p) t seen
    go j lt m o is (Ok x) e =
        let there = loads m o x is e in
        follows_weaken g j (526 + (weight + 3470)) (weight + 4000) (Running work (x ∷ vs) c) (place_in g a p) t seen (omega arith)
        (there.1 j (weight + 3470) p c.turns (Running work (x ∷ vs) c) seen has turns (λ u after h turned. behind j x u after lt there.0 h turned))

    by_value : (j : ℕ) → j < n → (x : Value) → v ≡ x → Follows g j (weight + 4000) (go_on (loaded f c x) work vs c) (place_in g a p) t seen
    by_value j lt (values.Place m o) is = go j lt m o is (read f c.store m o) refl
    by_value j lt (Whole z) is = nothing_follows g (unusable (Whole z)) j (weight + 4000) (place_in g a p) t seen
    by_value j lt Null is = nothing_follows g (unusable Null) j (weight + 4000) (place_in g a p) t seen
    by_value j lt Opaque is = nothing_follows g (unusable Opaque) j (weight + 4000) (place_in g a p) t seen
    by_value j lt (Cells xs) is = nothing_follows g (unusable (Cells xs)) j (weight + 4000) (place_in g a p) t seen
    by_value j lt NoValue is = nothing_follows g (unusable NoValue) j (weight + 4000) (place_in g a p) t seen
