-- The step that fetches a value, in a manner.
use Rattle.std.proofs.Common.{◌≡◌, ℕ, ◌+◌, ◌<◌, List, ◌∷◌, ◌++◌, Bool, true, false, refl, ◌∙◌, arith}
use Rattle.std.specs.Prelude.{not, Result, Ok, Err, length}
use Rattle.c65_ints.specs.declared.types.IntType.{IntType}
use Rattle.c65_ints.specs.declared.types.IntType.TheVariants as I
use Rattle.c65_meaning.specs.Why.{Why}
use Rattle.c65_meaning.specs.Store as values
use Rattle.c65_meaning.specs.Store.{Value, Whole, Null, Opaque, Cells, NoValue, Shape, read}
use Rattle.c65_meaning.specs.Fits.{Fits}
use Rattle.c65_meaning.specs.Operators.{unusable}
use Rattle.c65_meaning.specs.Items.{Item, Fetch}
use Rattle.c65_meaning.specs.State.{Scene, Running}
use Rattle.c65_meaning.specs.Step.{loaded, go_on}
use Rattle.c65_code.specs.declared.line.Line.{Line}
use Rattle.c65_code.specs.LineState.{State, ax_of}
use Rattle.c65_code.specs.Placement.{IsPlacement}
use Rattle.c65_code.specs.Comes.{Seen}
use Rattle.c65_genwide.specs.Wide.{narrow_code}
use Rattle.c65_genload.specs.declared.places.Access.TheVariants as access
use Rattle.c65_genload.specs.declared.places.Extent.{Extent}
use Rattle.c65_genload.specs.declared.places.Extent.TheVariants.{One, Two, Three, Four}
use Rattle.c65_genload.specs.declared.places.Place.{Place}
use Rattle.c65_genload.specs.declared.places.Place.TheVariants.{Bank, Near, Data, Far}
use Rattle.c65_genload.specs.Places.{extent_of}
use Rattle.c65_genload.specs.Loads.{load_code}
use Rattle.c65_gendirect.specs.Pointed.{behind_pointer_code}
use Rattle.c65_genexpr.specs.declared.destination.Destination.{Destination}
use Rattle.c65_genexpr.specs.declared.destination.Destination.TheVariants.{Registers, Pointer}
use Rattle.c65_genexpr.specs.Destination.{destination_by, fetch_by}
use Rattle.c65_genexpr.specs.Operating.{is_signed_char, is_light_load}
use Rattle.c65_agree_store.specs.Stands.{Spot, At, Placing, Banks}
use Rattle.c65_agree_state.specs.World.{World, Active, lines_of, place_in, HasAt, HasTurns}
use Rattle.c65_agree_state.specs.Follows.{Follows}
use Rattle.c65_agree_state.specs.Exprs.{Ready, Kept, Valued, ResultIs, width_in}
use Rattle.c65_agree_state.proofs.Followed.{follows_weaken, steps_earn, ready_is_calm}
use Rattle.c65_agree_state.proofs.Parts.{kept_goes_on}
use Rattle.c65_agree_rows.proofs.Quiet.{nothing_follows}
use Rattle.c65_agree_rows.proofs.Loads.{LeavesSecond}
use Rattle.c65_agree_put.specs.Laws.{IsScalar}
use Rattle.c65_agree_assign.specs.Places.{kind_in}
use Rattle.c65_agree_frame.specs.Leads.{Leads}
use Rattle.c65_agree_frame.proofs.Leads.{leads_then, leads_as}
use Rattle.c65_agree_load.specs.Loads.{CanLoad, IsNear, IsKeptThere, IsMeantThere, bytes_of}
use Rattle.c65_agree_load.proofs.Loads.{IsLightAt}
use Rattle.c65_agree_load.proofs.Fetched.{Narrowed, narrow_leads, narrow_is_light, fits, can, result, fetched, fetched_light}
use Rattle.c65_agree_operate.specs.Manners.{Manner, IsLeft}
use Rattle.c65_agree_operate.proofs.Manners.{left_held, left_scene}
use Rattle.c65_agree_structures.specs.Areas.{IsInMemory}
use Rattle.c65_agree_structures.specs.Bases.{IsToldBy}
use Rattle.c65_agree_loading.specs.Bases.{arrived_at}
use Rattle.c65_agree_loading.proofs.Members.{arrived_ready}
use Rattle.c65_agree_loading.proofs.Behind.{IsBehind, one_behind, two_behind}

-- ---- where lines are light

-- no number has three bytes
kept_in_memory : (place : Place) (kind : IntType) → IsInMemory place → IsKeptThere place (extent_of kind)
kept_in_memory (Bank b) kind memory = absurd memory
kept_in_memory (Near at) I.SChar memory = tt
kept_in_memory (Near at) I.UChar memory = tt
kept_in_memory (Near at) I.Short memory = tt
kept_in_memory (Near at) I.UShort memory = tt
kept_in_memory (Near at) I.Int memory = tt
kept_in_memory (Near at) I.UInt memory = tt
kept_in_memory (Near at) I.Long memory = tt
kept_in_memory (Near at) I.ULong memory = tt
kept_in_memory (Data s at) I.SChar memory = tt
kept_in_memory (Data s at) I.UChar memory = tt
kept_in_memory (Data s at) I.Short memory = tt
kept_in_memory (Data s at) I.UShort memory = tt
kept_in_memory (Data s at) I.Int memory = tt
kept_in_memory (Data s at) I.UInt memory = tt
kept_in_memory (Data s at) I.Long memory = tt
kept_in_memory (Data s at) I.ULong memory = tt
kept_in_memory (Far at) I.SChar memory = tt
kept_in_memory (Far at) I.UChar memory = tt
kept_in_memory (Far at) I.Short memory = tt
kept_in_memory (Far at) I.UShort memory = tt
kept_in_memory (Far at) I.Int memory = tt
kept_in_memory (Far at) I.UInt memory = tt
kept_in_memory (Far at) I.Long memory = tt
kept_in_memory (Far at) I.ULong memory = tt

-- the generator calls the load light
abbrev pub IsLight : Place → IntType → Type 0
IsLight place kind = IsLightAt place (extent_of kind) × (is_signed_char kind ≡ false)

other_than : (b : Bool) → not b ≡ true → b ≡ false
other_than true e = cc
other_than false e = refl

pub is_light : (place : Place) (kind : IntType) → is_light_load place (access.Whole kind) true ≡ true → IsLight place kind
is_light (Bank b) kind e = (tt, other_than (is_signed_char kind) e)
is_light (Near at) kind e = (tt, other_than (is_signed_char kind) e)
is_light (Data s at) kind e = (tt, other_than (is_signed_char kind) e)
is_light (Far at) I.SChar e = absurd (cc)
is_light (Far at) I.UChar e = (tt, refl)
is_light (Far at) I.Short e = (tt, refl)
is_light (Far at) I.UShort e = (tt, refl)
is_light (Far at) I.Int e = (tt, refl)
is_light (Far at) I.UInt e = (tt, refl)
is_light (Far at) I.Long e = absurd (cc)
is_light (Far at) I.ULong e = absurd (cc)

-- ---- the lines

-- what they leave
pub record IsFetched (g : World) (a : Active) (m : Manner) (f : Shape) (c : Scene) (w : Placing) (k : Banks) (t : State) (v : Value) (u : State) : Type 0 where
  pub kept : Kept g a c w k t c w k u
  pub result : ResultIs Valued w (width_in f) v u
  pub left : IsLeft m c t c u

module _ (g : World) (a : Active) (m : Manner) (pushed needs : ℕ) (f : Shape) (c : Scene) (w : Placing) (k : Banks) (t : State) (placed : IsPlacement g.code g.place) (r : Ready g a pushed needs c w k t) (scalar : IsScalar f) (b o : ℕ) (v : Value) (e : read f c.store b o ≡ Ok v) where
  abbrev kind : IntType
  kind = kind_in f

  -- from a place that is meant
  module _ (place : Place) (near : IsNear place) (meant : IsMeantThere g a c w t place b o) (there : IsKeptThere place (extent_of kind)) (light : m.light ≡ true → IsLight place kind) where
    place_leads : (x : Bool) → m.light ≡ x → Leads g a (load_code place (access.Whole kind)) 526 t (IsFetched g a m f c w k t v)
    place_leads true h =
        leads_as g a (load_code place (access.Whole kind)) 526 526 t (λ u. Kept g a c w k t c w k u × ResultIs Valued w (width_in f) v u × LeavesSecond t u) (IsFetched g a m f c w k t v) (omega arith)
        (λ u x. record { kept = x.0; result = x.1; left = left_held m c t u (record { low = x.2.low; high = x.2.high }) })
        (fetched_light g a pushed needs place f c w k t b o placed r scalar meant v e near there (light h).0 (light h).1)
    place_leads false h =
        leads_as g a (load_code place (access.Whole kind)) 526 526 t (λ u. Kept g a c w k t c w k u × ResultIs Valued w (width_in f) v u) (IsFetched g a m f c w k t v) (omega arith)
        (λ u x. record { kept = x.0; result = x.1; left = left_scene m c t u h })
        (fetched g a pushed needs place f c w k t b o placed r scalar meant v e near there)

    pub place_fetch : Fits f v × Leads g a (load_code place (access.Whole kind)) 526 t (IsFetched g a m f c w k t v)
    place_fetch = (fits g a pushed needs place f c w k t b o placed r scalar meant v e, place_leads m.light refl)

  -- from so far behind ptr1
  module _ (at : ℕ) (small : destination_by (extent_of kind) ≡ Pointer) (told : IsToldBy g a (Far at) c w (arrived_at Pointer t) (values.Place b o)) (light : m.light ≡ true → IsLight (Far at) kind) where
    abbrev view : State
    view = arrived_at Pointer t

    abbrev spot : Spot
    spot = At (ax_of view + at)

    view_ready : Ready g a pushed needs c w k view
    view_ready = arrived_ready g a Pointer pushed needs c w k t placed r

    bytes_behind : (extent : Extent) → destination_by extent ≡ Pointer → CanLoad g view spot (bytes_of extent) → Leads g a (behind_pointer_code at extent) 270 t (IsBehind g a pushed needs c w k t placed r at told.1 extent)
    bytes_behind One d may = one_behind g a pushed needs c w k t placed r at told.1 may
    bytes_behind Two d may = two_behind g a pushed needs c w k t placed r at told.1 may
    bytes_behind Three d may = absurd cc
    bytes_behind Four d may = absurd cc

    -- what is kept from the state is kept from that with ptr1 in AX
    to_view : (u : State) → Kept g a c w k t c w k u → Kept g a c w k view c w k u
    to_view u x = record { joins = x.joins; sp = x.sp; frames = x.frames; next = x.next; bounds = x.bounds; grows = x.grows; kept = x.kept; banks = x.banks; own_bank = x.own_bank; none_pushed = x.none_pushed }

    abbrev Behind : State → Type 0
    Behind u = IsBehind g a pushed needs c w k t placed r at told.1 (extent_of kind) u

    narrows : (x : Bool) → m.light ≡ x → (u : State) → Behind u → Leads g a (narrow_code kind) 256 u (IsFetched g a m f c w k t v)
    narrows true h u y =
        leads_as g a (narrow_code kind) 256 256 u (λ z. Narrowed g a pushed needs c w k view placed view_ready spot kind u z × LeavesSecond u z) (IsFetched g a m f c w k t v) (omega arith)
        (λ z n. record {
          kept = kept_goes_on g a c c c w w w k k k t u z y.kept n.0.0;
          result = result g a pushed needs (Far at) f c w k view b o placed view_ready scalar told.0.1 v e z n.0.1;
          left = left_held m c t z (record { low = n.1.low ∙ y.held.low; high = n.1.high ∙ y.held.high });
        })
        (narrow_is_light g a pushed needs c w k view placed view_ready spot kind u (light h).1 (to_view u y.kept) y.loaded)
    narrows false h u y =
        leads_as g a (narrow_code kind) 256 256 u (Narrowed g a pushed needs c w k view placed view_ready spot kind u) (IsFetched g a m f c w k t v) (omega arith)
        (λ z n. record {
          kept = kept_goes_on g a c c c w w w k k k t u z y.kept n.0;
          result = result g a pushed needs (Far at) f c w k view b o placed view_ready scalar told.0.1 v e z n.1;
          left = left_scene m c t z h;
        })
        (narrow_leads g a pushed needs c w k view placed view_ready spot kind u (to_view u y.kept) y.loaded)

    pub behind_fetch : Fits f v × Leads g a (behind_pointer_code at (extent_of kind) ++ narrow_code kind) 526 t (IsFetched g a m f c w k t v)
    behind_fetch = (
      fits g a pushed needs (Far at) f c w k view b o placed view_ready scalar told.0.1 v e,
      leads_then g a (behind_pointer_code at (extent_of kind)) (narrow_code kind) 270 256 t Behind (IsFetched g a m f c w k t v)
          (bytes_behind (extent_of kind) small (can g a pushed needs (Far at) f c w k view b o placed view_ready scalar told.0.1 v e)) (narrows m.light refl),
    )

  -- to where the base tells it
  pub base_fetch : (d : Destination) (place : Place) → destination_by (extent_of kind) ≡ d → IsToldBy g a place c w (arrived_at d t) (values.Place b o) → (m.light ≡ true → IsLight place kind) → Fits f v × Leads g a (fetch_by d place kind) 526 t (IsFetched g a m f c w k t v)
  base_fetch Registers place same told light = place_fetch place told.1 told.0.1 (kept_in_memory place kind told.2) light
  base_fetch Pointer (Bank i) same told light = absurd told.2
  base_fetch Pointer (Near at) same told light = place_fetch (Near at) told.1 (λ x q is. told.0.1 x q is) (kept_in_memory (Near at) kind tt) light
  base_fetch Pointer (Data s at) same told light = place_fetch (Data s at) told.1 (λ x q is. told.0.1 x q is) (kept_in_memory (Data s at) kind tt) light
  base_fetch Pointer (Far at) same told light = behind_fetch at same told light

-- ---- the step

-- such lines behind a place, and nothing that is defined behind another value
pub fetch_goes : (g : World) (a : Active) (pushed needs : ℕ) (f : Shape) (c : Scene) (w : Placing) (k : Banks) (t : State) (v : Value) (Loaded : Value → State → Type 0) (ls : List Line) (n weight p : ℕ) (work : List Item) (vs : List Value) (seen : Seen)
    → HasAt (lines_of g a) p ls → Ready g a pushed needs c w k t → HasTurns g c.turns (place_in g a p) seen
    → ((b o : ℕ) (x : Value) → v ≡ values.Place b o → read f c.store b o ≡ Ok x → Fits f x × Leads g a ls 526 t (Loaded x))
    → ((j : ℕ) (x : Value) (u : State) (after : Seen) → j < n → Fits f x → Loaded x u → HasTurns g c.turns (place_in g a (p + length ls)) after
    → Follows g j (weight + 3470) (Running work (x ∷ vs) c) (place_in g a (p + length ls)) u after)
    → Follows g n weight (Running (Fetch f ∷ work) (v ∷ vs) c) (place_in g a p) t seen
fetch_goes g a pushed needs f c w k t v Loaded ls n weight p work vs seen has r turns loads behind =
    steps_earn g n weight (Fetch f) work (v ∷ vs) c (place_in g a p) t seen (ready_is_calm g a pushed needs c w k t r).calm r.joins.output r.joins.ended (omega (arith, turns)) (λ j lt. by_value j lt v refl)
  where
    go : (j : ℕ) → j < n → (b o : ℕ) → v ≡ values.Place b o → (s : Result Value Why) → read f c.store b o ≡ s → Follows g j (weight + 4000) (go_on s work vs c) (place_in g a p) t seen
    go j lt b o is (Err why) e = nothing_follows g why j (weight + 4000) (place_in g a p) t seen
    go j lt b o is (Ok x) e =
        let there = loads b o x is e in
        follows_weaken g j (526 + (weight + 3470)) (weight + 4000) (Running work (x ∷ vs) c) (place_in g a p) t seen (omega arith)
        (there.1 j (weight + 3470) p c.turns (Running work (x ∷ vs) c) seen has turns (λ u after h turned. behind j x u after lt there.0 h turned))

    by_value : (j : ℕ) → j < n → (x : Value) → v ≡ x → Follows g j (weight + 4000) (go_on (loaded f c x) work vs c) (place_in g a p) t seen
    by_value j lt (values.Place b o) is = go j lt b o is (read f c.store b o) refl
    by_value j lt (Whole z) is = nothing_follows g (unusable (Whole z)) j (weight + 4000) (place_in g a p) t seen
    by_value j lt Null is = nothing_follows g (unusable Null) j (weight + 4000) (place_in g a p) t seen
    by_value j lt Opaque is = nothing_follows g (unusable Opaque) j (weight + 4000) (place_in g a p) t seen
    by_value j lt (Cells xs) is = nothing_follows g (unusable (Cells xs)) j (weight + 4000) (place_in g a p) t seen
    by_value j lt NoValue is = nothing_follows g (unusable NoValue) j (weight + 4000) (place_in g a p) t seen
