-- The bytes of a structure or union are gathered where it is kept.
use Rattle.std.proofs.Common.{◌≡◌, ℕ, ◌+◌, ◌<◌, ◌≤◌, List, ◌∷◌, ◌++◌, Option, Some, None, Bool, true, false, refl, sym, ap, ◌∙◌, subst, arith, length-append}
use Rattle.std.specs.Prelude.{nat_le, if◌then◌else◌, Ok, Err, length}
use Rattle.std.proofs.lemmas.Bool.Decides.{nat_tests}
use Rattle.c65_ctype.specs.Trees.{QTy, type_in}
use Rattle.c65_ctype.specs.Sizes.{size_of}
use Rattle.c65_ctype.specs.Views.{types_of}
use Rattle.c65_csem.specs.declared.items.Parts.{Parts}
use Rattle.c65_csem.specs.Trees.{Typed}
use Rattle.c65_csem_need.specs.Needs.{need}
use Rattle.c65_meaning.specs.declared.action.Action.TheVariants.{OutsideObject, EndedObject}
use Rattle.c65_meaning.specs.Why.{By, Unfit, ◌>>=◌}
use Rattle.c65_meaning.specs.Store as values
use Rattle.c65_meaning.specs.Store.{Cell, Block, Value, Whole, Null, Opaque, Cells, NoValue, Shape, Area, reached, cells_at}
use Rattle.c65_meaning.specs.Operators.{unusable}
use Rattle.c65_meaning.specs.Items.{Item, Gather, plan}
use Rattle.c65_meaning.specs.State.{Scene, Running}
use Rattle.c65_meaning.specs.Step.{go_on, gathered_at}
use Rattle.c65_code.specs.declared.line.Line.{Line}
use Rattle.c65_code.specs.LineState.{State, sp_of, eax_of}
use Rattle.c65_code.specs.Placement.{IsPlacement}
use Rattle.c65_code.specs.Steady.{IsOpen}
use Rattle.c65_code.specs.Comes.{Seen}
use Rattle.c65_genframe.specs.Sizes.{bytes_or}
use Rattle.c65_genframe.specs.Frames.{type_bytes}
use Rattle.c65_genload.specs.declared.places.Place.{Place}
use Rattle.c65_genload.specs.declared.places.Place.TheVariants.{Bank, Near, Data, Far}
use Rattle.c65_genload.specs.Places.{extent_by}
use Rattle.c65_genload.specs.Loads.{bytes_code}
use Rattle.c65_genexpr.specs.declared.destination.Destination.TheVariants.{Registers}
use Rattle.c65_genexpr.specs.Places.{place_of}
use Rattle.c65_genexpr.specs.Arguments.{clamped}
use Rattle.c65_genexpr.specs.Code.{base_code}
use Rattle.c65_agree_store.specs.Laws.{byte_of}
use Rattle.c65_agree_store.specs.Stands.{Spot, At, Banked, Placing, Banks, CellIs, CellsAre, IsAt, beyond}
use Rattle.c65_agree_state.specs.World.{World, unit_in, Active, lines_of, place_in, HasAt, HasTurns}
use Rattle.c65_agree_state.specs.Follows.{Follows}
use Rattle.c65_agree_state.specs.Exprs.{Ready, Kept, Valued, IsAreaValue, MayFit, ResultIs, Does, Rest, width_in}
use Rattle.c65_agree_state.proofs.Followed.{follows_weaken, steps_earn, ready_is_calm}
use Rattle.c65_agree_state.proofs.Nodes.{has_front, has_back, ready_stays}
use Rattle.c65_agree_state.proofs.Parts.{kept_goes_on}
use Rattle.c65_agree_places.specs.Places.{spot_in}
use Rattle.c65_agree_places.proofs.Held.{held_bytes_are_open}
use Rattle.c65_agree_rows.proofs.Quiet.{nothing_follows}
use Rattle.c65_agree_argument.specs.Arguments.{AreHeld}
use Rattle.c65_agree_load.specs.Loads.{CanLoad, IsNear, IsMeantThere, bytes_of}
use Rattle.c65_agree_structures.specs.Areas.{HasBytes, IsInMemory}
use Rattle.c65_agree_structures.specs.Bases.{IsToldBy, BaseDoes}
use Rattle.c65_agree_structures.specs.Packs.{PacksDo, PacksAreArguments, PacksAreResults}
use Rattle.c65_agree_structures.proofs.Sizes.{Small, small_type, extent_bytes, clamped_bytes}
use Rattle.c65_agree_structures.proofs.Cells.{cells_stand, cells_count, cells_fit, areas_are_held}
use Rattle.c65_agree_structures.proofs.Loads.{areas_are_loaded}

-- a block in memory has an address
record IsAddressed (g : World) (a : Active) (t : State) (place : Place) (q : Spot) (o : ℕ) : Type 0 where
  at : ℕ
  is : q ≡ At at
  there : spot_in g a t place ≡ At (at + o)

addressed : (g : World) (a : Active) (t : State) (place : Place) (q : Spot) (o : ℕ) → IsInMemory place → spot_in g a t place ≡ beyond q o → IsAddressed g a t place q o
addressed g a t place (At at) o memory e = record { at = at; is = refl; there = e }
addressed g a t (Bank b) (Banked d i) o memory e = absurd memory
addressed g a t (Near n) (Banked d i) o memory e = absurd cc
addressed g a t (Data sym n) (Banked d i) o memory e = absurd cc
addressed g a t (Far n) (Banked d i) o memory e = absurd cc

module _ (g : World) (a : Active) (placed : IsPlacement g.code g.place) (e : Typed) (size : ℕ) (least : 1 ≤ size) (most : size ≤ 4) (base : BaseDoes g a e) (pushed fresh : ℕ) where
  abbrev place : Place
  place = place_of a.frame pushed e

  abbrev told : List Line
  told = base_code a.frame pushed fresh Registers e

  abbrev load : List Line
  load = bytes_code place (extent_by size)

  module _ (n w p : ℕ) (k : List Item) (vs : List Value) (c : Scene) (q : Placing) (b : Banks) (t : State) (has : HasAt (lines_of g a) (p + length told) load) (rest : Rest g a Valued (Area size) n w k vs (p + length (told ++ load)) c q b t)
      (j : ℕ) (lt : j < n) (c2 : Scene) (q2 : Placing) (b2 : Banks) (u : State) (later : Seen) (kept : Kept g a c q b t c2 q2 b2 u) (r : Ready g a pushed (need e) c2 q2 b2 u) (turned : HasTurns g c2.turns (place_in g a (p + length told)) later) (i : ℕ) (less : i < j) where
    ends : p + length told + length load ≡ p + length (told ++ load)
    ends = omega (arith, length-append told load)

    -- a block of which the bytes are there
    module _ (m o : ℕ) (x : Block) (is : c2.store m ≡ Some x) (live : x.live ≡ true) (fits : o + size ≤ x.holds) (meant : IsMeantThere g a c2 q2 u place m o) (near : IsNear place) (memory : IsInMemory place) where
      abbrev cells : List Cell
      cells = cells_at size x.cells o

      stands_at : (s : Spot) → q2 m ≡ Some s → IsAt c2.store q2 m x s
      stands_at s there = record { is = is; live = live; place = there }

      module _ (s : Spot) (there : q2 m ≡ Some s) where
        known : IsAddressed g a u place s o
        known = addressed g a u place s o memory (meant x s (stands_at s there)).1

        at_address : IsAt c2.store q2 m x (At known.at)
        at_address = subst (λ y. IsAt c2.store q2 m x y) known.is (stands_at s there)

        can : CanLoad g u (spot_in g a u place) (bytes_of (extent_by size))
        can = subst (λ y. CanLoad g u y (bytes_of (extent_by size))) (sym known.there) (λ l lt2.
            let here : known.at + (o + l) ≡ known.at + o + l = omega arith in
            let few = extent_bytes size least most in
            subst (λ y. IsOpen g.place (sp_of u) y) here (held_bytes_are_open g a pushed (need e) c2 q2 b2 u m known.at (o + l) x r at_address (omega (arith, lt2, few, fits))))

        cells_are : (y : State) → HasBytes (bytes_of (extent_by size)) (spot_in g a u place) u y → CellsAre q2 cells (eax_of y)
        cells_are y bytes = cells_stand q2 x.cells size o (eax_of y) (λ l lt2.
            let few = extent_bytes size least most in
            let here : known.at + (o + l) ≡ known.at + o + l = omega arith in
            let byte : byte_of l (eax_of y) ≡ u.mem (known.at + o + l) = subst (λ z. HasBytes (bytes_of (extent_by size)) z u y) known.there bytes l (omega (arith, lt2, few)) in
            subst (λ z. CellIs q2 (x.cells (o + l)) z) (ap u.mem here ∙ sym byte) (r.joins.stands.cells m x (At known.at) (o + l) at_address (omega (arith, lt2, fits))))

        loaded : Follows g i (w + 2600 + 4000) (Running k (Cells cells ∷ vs) c2) (place_in g a (p + length told)) u later
        loaded =
            follows_weaken g i (270 + (w + 2600)) (w + 2600 + 4000) (Running k (Cells cells ∷ vs) c2) (place_in g a (p + length told)) u later (omega arith)
            (areas_are_loaded g a pushed (need e) c2 q2 b2 u place (extent_by size) placed r can near memory i (w + 2600) (p + length told) c2.turns (Running k (Cells cells ∷ vs) c2) later has turned (λ y after h turned2.
            subst (λ z. Follows g i (w + 2600) (Running k (Cells cells ∷ vs) c2) (place_in g a z) y after) (sym ends)
            (rest i (Cells cells) c2 q2 b2 y after (omega (arith, lt, less)) (record { kept = kept_goes_on g a c c2 c2 q q2 q2 b b2 b2 t u y kept h.0; result = cells_are y h.1; fits = fit })
            (subst (λ z. HasTurns g c2.turns (place_in g a z) after) ends turned2))))
          where
            fit : IsAreaValue size (Cells cells)
            fit = cells_fit size cells least (cells_count size x.cells o)

      gathers : Follows g i (w + 2600 + 4000) (Running k (Cells cells ∷ vs) c2) (place_in g a (p + length told)) u later
      gathers = let s = r.joins.stands.placed m x is live in loaded s.0 s.1

    in_block : (m o : ℕ) → IsMeantThere g a c2 q2 u place m o → IsNear place → IsInMemory place → (s : Option Block) → c2.store m ≡ s → Follows g i (w + 2600 + 4000) (go_on (reached s o size >>= λ x. Ok (Cells (cells_at size x.cells o))) k vs c2) (place_in g a (p + length told)) u later
    in_block m o meant near memory None e = nothing_follows g Unfit i (w + 2600 + 4000) (place_in g a (p + length told)) u later
    in_block m o meant near memory (Some x) e = go x.live refl (nat_le (o + size) x.holds) refl
      where
        go : (live : Bool) → x.live ≡ live → (fits : Bool) → nat_le (o + size) x.holds ≡ fits
            → Follows g i (w + 2600 + 4000) (go_on ((if live then (if fits then Ok x else Err (By OutsideObject)) else Err (By EndedObject)) >>= λ y. Ok (Cells (cells_at size y.cells o))) k vs c2) (place_in g a (p + length told)) u later
        go true live true fits = gathers m o x e live (grind (arith, nat_tests)) meant near memory
        go true live false fits = nothing_follows g (By OutsideObject) i (w + 2600 + 4000) (place_in g a (p + length told)) u later
        go false live fits _ = nothing_follows g (By EndedObject) i (w + 2600 + 4000) (place_in g a (p + length told)) u later

    gathered : (v : Value) → IsToldBy g a place c2 q2 u v → Follows g i (w + 2600 + 4000) (go_on (gathered_at size c2 v) k vs c2) (place_in g a (p + length told)) u later
    gathered (values.Place m o) h = in_block m o h.0.1 h.1 h.2 (c2.store m) refl
    gathered (Whole z) h = nothing_follows g (unusable (Whole z)) i (w + 2600 + 4000) (place_in g a (p + length told)) u later
    gathered Null h = nothing_follows g (unusable Null) i (w + 2600 + 4000) (place_in g a (p + length told)) u later
    gathered Opaque h = nothing_follows g (unusable Opaque) i (w + 2600 + 4000) (place_in g a (p + length told)) u later
    gathered (Cells xs) h = nothing_follows g (unusable (Cells xs)) i (w + 2600 + 4000) (place_in g a (p + length told)) u later
    gathered NoValue h = nothing_follows g (unusable NoValue) i (w + 2600 + 4000) (place_in g a (p + length told)) u later

  area_does : Does g a Valued (Area size) (λ k. plan (unit_in g) e (Gather size ∷ k)) (need e) pushed (told ++ load)
  area_does n w p k vs c q b t seen has r turns rest =
      base pushed fresh n w p (Gather size ∷ k) vs c q b t seen (has_front (lines_of g a) p told load has) r turns (λ j v c2 q2 b2 u later lt kept h turned.
      let ready = ready_stays g a pushed (need e) (need e) c c2 q q2 b b2 t u (omega arith) r kept in
      steps_earn g j (w + 2600) (Gather size) k (v ∷ vs) c2 (place_in g a (p + length told)) u later (ready_is_calm g a pushed (need e) c2 q2 b2 u ready).calm kept.joins.output kept.joins.ended (omega (arith, turned)) (λ i less.
      gathered n w p k vs c q b t (has_back (lines_of g a) p told load has) rest j lt c2 q2 b2 u later kept ready turned i less v h))

-- ---- the laws

pub bytes_are : (g : World) (a : Active) (t : QTy) → a.frame.parts ≡ g.parts → Small (unit_in g).types (type_in t) → type_bytes a.frame (type_in t) ≡ size_of (unit_in g).types (type_in t)
bytes_are g a t parts small = ap (λ (p : Parts). bytes_or (types_of p.types) (type_in t) 0) parts ∙ small.bytes

pub packs_do : PacksDo
packs_do g a t e placed parts is base pushed fresh =
    let small : Small (unit_in g).types (type_in t) = small_type (unit_in g).types (type_in t) is in
    let size : ℕ = size_of (unit_in g).types (type_in t) in
    let told : List Line = base_code a.frame pushed fresh Registers e in
    subst (λ (f : Shape). Does g a Valued f (λ k. plan (unit_in g) e (Gather size ∷ k)) (need e) pushed (told ++ bytes_code (place_of a.frame pushed e) (extent_by (type_bytes a.frame (type_in t))))) (sym small.shape)
    (subst (λ (n : ℕ). Does g a Valued (Area size) (λ k. plan (unit_in g) e (Gather size ∷ k)) (need e) pushed (told ++ bytes_code (place_of a.frame pushed e) (extent_by n))) (sym (bytes_are g a t parts small))
    (area_does g a placed e size small.least small.most base pushed fresh))

pub packs_are_arguments : PacksAreArguments
packs_are_arguments g a t e parts is does pushed fresh n w p k vs c q b s seen has r turned rest =
    let small : Small (unit_in g).types (type_in t) = small_type (unit_in g).types (type_in t) is in
    let size : ℕ = size_of (unit_in g).types (type_in t) in
    let passed : clamped (type_bytes a.frame (type_in t)) ≡ size = ap clamped (bytes_are g a t parts small) ∙ clamped_bytes size small.least small.most in
    does pushed fresh n w p k vs c q b s seen has r turned (λ j v c2 q2 b2 u later lt done turned2.
    let fits : MayFit Valued (Area size) v = subst (λ (f : Shape). MayFit Valued f v) small.shape done.fits in
    let result : ResultIs Valued q2 (width_in (Area size)) v u = subst (λ (f : Shape). ResultIs Valued q2 (width_in f) v u) small.shape done.result in
    rest j v c2 q2 b2 u later lt done.kept (subst (λ m. AreHeld q2 u m v) (sym passed) (areas_are_held q2 size v u small.least fits result)) turned2)

pub packs_are_results : PacksAreResults
packs_are_results x t e value same = record { value = value; gives = refl; width = ap width_in same; fits = λ v fits. subst (λ (f : Shape). MayFit Valued f v) same fits }
