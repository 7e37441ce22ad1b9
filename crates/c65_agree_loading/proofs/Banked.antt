-- Objects in regbank.
use Rattle.std.proofs.Common.{◌≡◌, ℕ, ◌+◌, ◌<◌, List, [], ◌∷◌, ◌++◌, Option, Some, None, Bool, true, false, refl, sym, ap, ◌∙◌, subst, arith}
use Rattle.std.specs.Prelude.{if◌then◌else◌, Ok}
use Rattle.c65_ints.specs.declared.types.IntType.{IntType}
use Rattle.c65_ctype.specs.Trees.{QTy}
use Rattle.c65_csem.specs.Trees.{node, object, load}
use Rattle.c65_meaning.specs.Why.{Unfit}
use Rattle.c65_meaning.specs.Store as values
use Rattle.c65_meaning.specs.Store.{Value, Shape}
use Rattle.c65_meaning.specs.Items.{Name, Fetch, plan}
use Rattle.c65_meaning.specs.Shapes.{object_block, object_in, lives_in_frame}
use Rattle.c65_meaning.specs.State.{Scene, Running, block_in}
use Rattle.c65_meaning.specs.Step as steps
use Rattle.c65_meaning.specs.Step.{go_on}
use Rattle.c65_code.specs.declared.line.Line.{Line}
use Rattle.c65_code.specs.LineState.{State}
use Rattle.c65_genframe.specs.declared.home.Home.TheVariants as homes
use Rattle.c65_genload.specs.declared.places.Access.{Access}
use Rattle.c65_genload.specs.declared.places.Access.TheVariants.{Whole}
use Rattle.c65_genload.specs.declared.places.Extent.{Extent}
use Rattle.c65_genload.specs.declared.places.Extent.TheVariants.{One, Two, Three, Four}
use Rattle.c65_genload.specs.declared.places.Place.{Place}
use Rattle.c65_genload.specs.declared.places.Place.TheVariants.{Bank}
use Rattle.c65_genload.specs.Places.{extent_of}
use Rattle.c65_genload.specs.Loads.{load_code}
use Rattle.c65_gendirect.specs.declared.direct.Direct.TheVariants.{Kept}
use Rattle.c65_gendirect.specs.Tests.{all_zero_code, zero_test_code}
use Rattle.c65_genexpr.specs.declared.destination.Destination.{Destination}
use Rattle.c65_genexpr.specs.declared.destination.Destination.TheVariants.{Registers, Pointer}
use Rattle.c65_genexpr.specs.declared.wanted.Wanted.{Wanted}
use Rattle.c65_genexpr.specs.declared.wanted.Wanted.TheVariants.{Value as OfValue, Test}
use Rattle.c65_genexpr.specs.Destination.{destination_by, arrived, fetch_by}
use Rattle.c65_genexpr.specs.Direct.{own_bytes}
use Rattle.c65_genexpr.specs.Elements.{typed_by, element_by, element_at}
use Rattle.c65_genexpr.specs.Places.{place_at, object_place, object_code, target_code}
use Rattle.c65_genexpr.specs.Code.{expr_code, load_by}
use Rattle.c65_agree_store.specs.Stands.{Placing}
use Rattle.c65_agree_state.specs.World.{World, unit_in, Active, place_in, HasTurns}
use Rattle.c65_agree_state.specs.Follows.{Follows}
use Rattle.c65_agree_state.specs.Exprs.{Valued, shape_in}
use Rattle.c65_agree_state.proofs.Followed.{follows_weaken, steps_earn, ready_is_calm}
use Rattle.c65_agree_rows.proofs.Quiet.{nothing_follows}
use Rattle.c65_agree_assign.specs.Places.{kind_in}
use Rattle.c65_agree_direct.proofs.Spots.{IsKnown, LiesThere, object_lies}
use Rattle.c65_agree_operate.specs.Manners.{Manner, DoesIn}
use Rattle.c65_agree_operate.proofs.Manners.{left_held}
use Rattle.c65_agree_operate.proofs.Converted.{kept_itself}
use Rattle.c65_agree_compare.specs.Branches.{BranchesIn}
use Rattle.c65_agree_loading.specs.LoadLaws.{IsBankedLoad, BankedLoadsDoIn, BankedLoadsTestIn}
use Rattle.c65_agree_loading.proofs.Wholes.{IsWhole, loads_are_whole}
use Rattle.c65_agree_loading.proofs.Fetching.{place_fetch}
use Rattle.c65_agree_loading.proofs.Loads.{TellsBy, value_behind, load_lines}
use Rattle.c65_agree_loading.proofs.Zeros.{bytes_decide}
use Rattle.c65_agree_loading.proofs.Tests.{test_behind}

-- ---- the lines

none_typed : (kind : IntType) (extent : Extent) → typed_by kind extent None ≡ None
none_typed kind One = refl
none_typed kind Two = refl
none_typed kind Three = refl
none_typed kind Four = refl

fetched_there : (d : Destination) (b : ℕ) (kind : IntType) → fetch_by d (Bank b) kind ≡ load_code (Bank b) (Whole kind)
fetched_there Registers b kind = refl
fetched_there Pointer b kind = refl

module _ (g : World) (a : Active) (t s : QTy) (i b : ℕ) (banked : IsBankedLoad g a t s i b) where
  abbrev f : Shape
  f = shape_in g a (node s (object i))

  abbrev kind : IntType
  kind = kind_in f

  whole : IsWhole g a t (node s (object i))
  whole = loads_are_whole g a t (node s (object i)) banked.parts banked.typed refl

  place_is : (pushed : ℕ) → object_place a.frame pushed i ≡ Bank b
  place_is pushed = ap (place_at a.frame pushed i) banked.home

  no_element : element_at a.frame (node s (object i)) ≡ None
  no_element = ap (λ (z : Access). element_by z None) whole.access ∙ none_typed kind (extent_of kind)

  -- there are none before those of the load
  lines_are : (pushed fresh : ℕ) (q : Wanted) → expr_code a.frame pushed fresh q (node t (load (node s (object i)))) ≡ load_by q (Bank b) (Whole kind) []
  lines_are pushed fresh q =
      load_lines a pushed fresh q t (node s (object i)) kind no_element whole.access
      ∙ ap (λ (z : Place). load_by q z (Whole kind) (target_code z (object_code a.frame pushed i ++ arrived (destination_by (extent_of kind))))) (place_is pushed)

  -- ---- the name

  -- what its name tells
  abbrev Told : Scene → Placing → State → Value → Type 0
  Told c w u (values.Place x o) = LiesThere g a c w u (Bank b) x o
  Told c w u v = Unit {0}

  names : (m : Manner) (needs pushed : ℕ) → TellsBy g a m 2600 Told (λ k. Name i ∷ k) needs pushed []
  names m needs pushed n w p k vs c q bk st seen has r turned rest =
      steps_earn g n w (Name i) k vs c (place_in g a p) st seen (ready_is_calm g a pushed needs c q bk st r).calm r.joins.output r.joins.ended (omega (arith, turned)) (λ j lt. by_class j lt (lives_in_frame (object_in (unit_in g) i)) refl)
    where
      ends : p ≡ p + 0
      ends = omega arith

      own : (j : ℕ) → j < n → (x : Option ℕ) → block_in c.frames i ≡ x → Follows g j (w + 4000) (go_on (steps.place_in x) k vs c) (place_in g a p) st seen
      own j lt None e = nothing_follows g Unfit j (w + 4000) (place_in g a p) st seen
      own j lt (Some x) e =
          let known : IsKnown (object_place a.frame pushed i) = subst IsKnown (sym (place_is pushed)) tt in
          let lies : LiesThere g a c q st (Bank b) x 0 = subst (λ (z : Place). LiesThere g a c q st z x 0) (place_is pushed) (object_lies g a pushed needs c q bk st r i x e known) in
          subst (λ z. Follows g j (w + 4000) (Running k (values.Place x 0 ∷ vs) c) (place_in g a z) st seen) (sym ends)
          (follows_weaken g j (w + 2600) (w + 4000) (Running k (values.Place x 0 ∷ vs) c) (place_in g a (p + 0)) st seen (omega arith)
          (rest j (values.Place x 0) c q bk st seen lt (kept_itself g a pushed needs c q bk st r) lies (left_held m c st st (record { low = refl; high = refl })) (subst (λ z. HasTurns g c.turns (place_in g a z) seen) ends turned)))

      by_class : (j : ℕ) → j < n → (lives : Bool) → lives_in_frame (object_in (unit_in g) i) ≡ lives → Follows g j (w + 4000) (go_on (if lives then steps.place_in (block_in c.frames i) else Ok (values.Place (object_block (unit_in g) i) 0)) k vs c) (place_in g a p) st seen
      by_class j lt true e = own j lt (block_in c.frames i) refl
      by_class j lt false e = let clash : None ≡ Some (homes.Bank b) = sym (banked.homed.fixed e).0 ∙ banked.home in absurd (cc)

pub banked_loads_do_in : BankedLoadsDoIn
banked_loads_do_in g a m t s i b placed over banked light pushed fresh =
    let f : Shape = shape_in g a (node s (object i)) in
    let kind : IntType = kind_in f in
    let h : IsWhole g a t (node s (object i)) = whole g a t s i b banked in
    let lines : List Line = load_code (Bank b) (Whole kind) in
    subst (λ ls. DoesIn g a m Valued (shape_in g a (node t (load (node s (object i))))) (plan (unit_in g) (node t (load (node s (object i))))) 0 pushed ls) (sym (lines_are g a t s i b banked pushed fresh OfValue ∙ fetched_there (destination_by (extent_of kind)) b kind))
    (subst (λ x. DoesIn g a m Valued x (plan (unit_in g) (node t (load (node s (object i))))) 0 pushed lines) (sym h.same)
    (subst (λ x. DoesIn g a m Valued f (λ k. Name i ∷ Fetch x ∷ k) 0 pushed lines) (sym h.shape)
    (value_behind g a m 2600 (omega arith) (omega (arith, over)) f h.scalar (λ k. Name i ∷ k) 0 pushed (Told g a t s i b banked) [] (names g a t s i b banked m 0 pushed) lines
    (λ c w k st r x o v told e. place_fetch g a m pushed 0 f c w k st placed r h.scalar x o v e (Bank b) tt told.meant banked.kept (λ y. (tt, light y))))))

pub banked_loads_test_in : BankedLoadsTestIn
banked_loads_test_in g a m t s i b placed over banked pushed fresh to sense =
    let f : Shape = shape_in g a (node s (object i)) in
    let kind : IntType = kind_in f in
    let h : IsWhole g a t (node s (object i)) = whole g a t s i b banked in
    let lines : List Line = zero_test_code (own_bytes (Kept (Bank b) kind) (extent_of kind)) sense to in
    subst (λ ls. BranchesIn g a m (shape_in g a (node t (load (node s (object i))))) sense to (plan (unit_in g) (node t (load (node s (object i))))) 0 pushed ls) (sym (lines_are g a t s i b banked pushed fresh (Test to sense)))
    (subst (λ x. BranchesIn g a m x sense to (plan (unit_in g) (node t (load (node s (object i))))) 0 pushed lines) (sym h.same)
    (subst (λ x. BranchesIn g a m f sense to (λ k. Name i ∷ Fetch x ∷ k) 0 pushed lines) (sym h.shape)
    (test_behind g a m 2600 (omega arith) (omega (arith, over)) f h.scalar (λ k. Name i ∷ k) 0 pushed (Told g a t s i b banked) [] (names g a t s i b banked m 0 pushed) sense to (all_zero_code (own_bytes (Kept (Bank b) kind) (extent_of kind)))
    (λ c w k st r x o v told e. bytes_decide g a pushed 0 f c w k st placed r h.scalar x o v e (Bank b) tt told))))
