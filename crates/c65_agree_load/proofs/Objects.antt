-- An object that is named and loaded.
use Rattle.std.proofs.Common.{◌≡◌, ℕ, ◌+◌, ◌<◌, List, [], ◌∷◌, ◌++◌, Option, Some, None, Bool, true, false, refl, sym, ap, ◌∙◌, subst, arith}
use Rattle.std.specs.Prelude.{nat_le, if◌then◌else◌, Ok, length}
use Rattle.std.proofs.lemmas.Bool.Decides.{nat_tests}
use Rattle.std.proofs.Math.Nat.{mod-eq_of_lt}
use Rattle.c65_ctype.specs.Trees.{Ty, QTy, TypesTy, type_in}
use Rattle.c65_ctype.specs.Trees as types
use Rattle.c65_ints.specs.declared.types.IntType.{IntType}
use Rattle.c65_csem.specs.Trees.{Typed}
use Rattle.c65_csem_need.specs.Needs.{need}
use Rattle.c65_meaning.specs.Why.{Unfit}
use Rattle.c65_meaning.specs.Store.{Block, Shape}
use Rattle.c65_meaning.specs.Store as values
use Rattle.c65_meaning.specs.Items.{Name, Fetch, plan}
use Rattle.c65_meaning.specs.Shapes.{shape_of, object_block, object_in, lives_in_frame}
use Rattle.c65_meaning.specs.State.{Scene, Running, block_in}
use Rattle.c65_meaning.specs.Step as step
use Rattle.c65_meaning.specs.Step.{go_on}
use Rattle.c65_code.specs.LineState.{State}
use Rattle.c65_genframe.specs.declared.home.Home.{Home}
use Rattle.c65_genframe.specs.declared.home.Home.TheVariants as homes
use Rattle.c65_genframe.specs.Frames.{Framed, home_of, is_raised}
use Rattle.c65_genframe.specs.Symbols.{numbers_of, object_symbol}
use Rattle.c65_genload.specs.declared.places.Access.TheVariants as access
use Rattle.c65_genload.specs.declared.places.Place.{Place}
use Rattle.c65_genload.specs.declared.places.Place.TheVariants.{Near, Data, Far}
use Rattle.c65_genload.specs.declared.places.Extent.{Extent}
use Rattle.c65_genload.specs.declared.places.Extent.TheVariants.{One, Two, Three, Four}
use Rattle.c65_genload.specs.Places.{extent_of}
use Rattle.c65_genload.specs.Loads.{load_code}
use Rattle.c65_genexpr.specs.declared.destination.Destination.{Destination}
use Rattle.c65_genexpr.specs.declared.destination.Destination.TheVariants as destinations
use Rattle.c65_genexpr.specs.Destination.{arrived, destination_by, fetch_by, fetch_code}
use Rattle.c65_genexpr.specs.Types.{kind_of}
use Rattle.c65_genexpr.specs.Elements.{typed_by, element_or, loaded_element}
use Rattle.c65_genexpr.specs.Code.{expr_code}
use Rattle.c65_genexpr.specs.declared.wanted.Wanted.TheVariants as wanted
use Rattle.c65_genexpr.specs.Places.{more, near, soft_place, place_at, object_place, target_code, object_code}
use Rattle.c65_agree_store.specs.Stands.{Spot, At, Banked, Placing, Banks, IsAt, beyond}
use Rattle.c65_agree_state.specs.World.{World, unit_in, Active, place_in}
use Rattle.c65_agree_state.specs.Follows.{Follows}
use Rattle.c65_agree_state.specs.Exprs.{Ready, Valued, Does, shape_in}
use Rattle.c65_agree_state.proofs.Followed.{follows_weaken, steps_earn, ready_is_calm}
use Rattle.c65_agree_places.specs.Places.{spot_in, home_place, IsReached}
use Rattle.c65_agree_places.proofs.Spots.{objects_are_at_home, objects_are_at_symbols}
use Rattle.c65_agree_rows.proofs.Quiet.{nothing_follows}
use Rattle.c65_agree_put.specs.Laws.{IsScalar}
use Rattle.c65_agree_put.proofs.Fits.{may_fit}
use Rattle.c65_agree_assign.specs.Places.{kind_in}
use Rattle.c65_agree_load.specs.Loads.{IsNear, IsMeantThere}
use Rattle.c65_agree_load.specs.Objects.{IsHomed, IsTold, NamedAreLoaded, load_of, ObjectsAreLoaded}
use Rattle.c65_agree_load.proofs.Fetched.{fetches_are_followed}

beyond_none : (s : Spot) → s ≡ beyond s 0
beyond_none (At at) = ap At (omega arith)
beyond_none (Banked d i) = ap (Banked d) (omega arith)

home_is_reached : (g : World) (a : Active) (t : State) (pushed i : ℕ) (h : Option Home) → IsReached a (spot_in g a t (home_place g pushed i h))
home_is_reached g a t pushed i None = tt
home_is_reached g a t pushed i (Some (homes.Bank b)) = refl
home_is_reached g a t pushed i (Some (homes.Soft d)) = tt

module _ (g : World) (a : Active) (needs pushed i : ℕ) (place : Place) (homed : IsHomed g a i) (is : place ≡ home_place g pushed i (home_of a.frame i)) (c : Scene) (w : Placing) (k : Banks) (t : State) (r : Ready g a pushed needs c w k t) where
  -- a block that stands where the object has its home
  meant_at : (b : ℕ) → ((x : Block) (q : Spot) → IsAt c.store w b x q → q ≡ spot_in g a t (home_place g pushed i (home_of a.frame i))) → IsMeantThere g a c w t place b 0
  meant_at b home x q at =
      let there : q ≡ spot_in g a t (home_place g pushed i (home_of a.frame i)) = home x q at in
      (subst (IsReached a) (sym there) (home_is_reached g a t pushed i (home_of a.frame i)), ap (spot_in g a t) is ∙ sym there ∙ beyond_none q)

  own_is_meant : (b : ℕ) → block_in c.frames i ≡ Some b → IsMeantThere g a c w t place b 0
  own_is_meant b named = meant_at b (λ x q at. objects_are_at_home g a pushed needs c w k t i b x q r named at homed.low)

  fixed_is_meant : lives_in_frame (object_in (unit_in g) i) ≡ false → IsMeantThere g a c w t place (object_block (unit_in g) i) 0
  fixed_is_meant lasts =
      let home : home_place g pushed i (home_of a.frame i) ≡ Data (object_symbol (numbers_of g.parts) i) 0 = ap (home_place g pushed i) (homed.fixed lasts).0 in
      meant_at (object_block (unit_in g) i) (λ x q at. objects_are_at_symbols g a c w k t i x q r.joins lasts (homed.fixed lasts).1 at ∙ ap (spot_in g a t) (sym home))

pub named_are_loaded : NamedAreLoaded
named_are_loaded g a needs pushed i f place placed scalar homed is is_near kept_there n weight p k vs c w b t seen has r turns rest =
    steps_earn g n weight (Name i) (Fetch f ∷ k) vs c (place_in g a p) t seen (ready_is_calm g a pushed needs c w b t r).calm r.joins.output r.joins.ended (omega (arith, turns)) (λ j lt. go j lt (lives_in_frame (object_in (unit_in g) i)) refl)
  where
    fetched : (j m : ℕ) → j < n → IsMeantThere g a c w t place m 0 → Follows g j (weight + 4000) (Running (Fetch f ∷ k) (values.Place m 0 ∷ vs) c) (place_in g a p) t seen
    fetched j m lt meant =
        fetches_are_followed g a pushed needs place f c w b t m 0 j (weight + 4000) p k vs seen placed has r scalar is_near kept_there meant turns (λ h v u after less kept result fits e later.
        follows_weaken g h (weight + 2600) (weight + 4000 + 3470) (Running k (v ∷ vs) c) (place_in g a (p + length (load_code place (access.Whole (kind_in f))))) u after (omega arith)
        (rest h v c w b u after (omega (arith, lt, less)) (record { kept = kept; result = result; fits = may_fit f v scalar fits }) later))

    own : (j : ℕ) → j < n → (m : Option ℕ) → block_in c.frames i ≡ m → Follows g j (weight + 4000) (go_on (step.place_in m) (Fetch f ∷ k) vs c) (place_in g a p) t seen
    own j lt None e = nothing_follows g Unfit j (weight + 4000) (place_in g a p) t seen
    own j lt (Some m) e = fetched j m lt (own_is_meant g a needs pushed i place homed is c w b t r m e)

    go : (j : ℕ) → j < n → (lives : Bool) → lives_in_frame (object_in (unit_in g) i) ≡ lives → Follows g j (weight + 4000) (go_on (if lives then step.place_in (block_in c.frames i) else Ok (values.Place (object_block (unit_in g) i) 0)) (Fetch f ∷ k) vs c) (place_in g a p) t seen
    go j lt true e = own j lt (block_in c.frames i) refl
    go j lt false e = fetched j (object_block (unit_in g) i) lt (fixed_is_meant g a needs pushed i place homed is c w b t r e)

-- ---- a tree

-- a number or a pointer is kept as its type says
kind_is : (us : TypesTy) (t : Ty) → IsScalar (shape_of us t) → kind_of t ≡ kind_in (shape_of us t)
kind_is us (types.int kind) scalar = refl
kind_is us (types.pointer q) scalar = refl
kind_is us types.void scalar = absurd scalar
kind_is us (types.array q n) scalar = absurd scalar
kind_is us (types.function f) scalar = absurd scalar
kind_is us (types.tag n) scalar = absurd scalar

told : (g : World) (a : Active) (pushed i : ℕ) (h : Option Home) → is_raised a.frame i ≡ false → IsTold pushed h → (place_at a.frame pushed i h ≡ home_place g pushed i h) × IsNear (home_place g pushed i h)
told g a pushed i None low fits = (refl, omega arith)
told g a pushed i (Some (homes.Bank b)) low fits = (refl, tt)
told g a pushed i (Some (homes.Soft d)) low fits = (ap (λ raised. soft_place raised (more d pushed)) low ∙ ap near (mod-eq_of_lt small) ∙ go (nat_le (d + pushed) 252) refl, fits)
  where
    small : d + pushed < 65536
    small = omega (arith, fits)

    go : (b : Bool) → nat_le (d + pushed) 252 ≡ b → (if b then Near (d + pushed) else Far 0) ≡ Near (d + pushed)
    go true e = refl
    go false e = let over : 252 < d + pushed = grind (arith, nat_tests) in absurd (omega (arith, over, fits))

-- such a place has no base
no_base : (g : World) (pushed i : ℕ) (h : Option Home) (lines : List _) → target_code (home_place g pushed i h) lines ≡ []
no_base g pushed i None lines = refl
no_base g pushed i (Some (homes.Bank b)) lines = refl
no_base g pushed i (Some (homes.Soft d)) lines = refl

-- and its value is loaded from there
loaded_there : (g : World) (pushed i : ℕ) (h : Option Home) (kind : IntType) (d : Destination) → fetch_by d (home_place g pushed i h) kind ≡ load_code (home_place g pushed i h) (access.Whole kind)
loaded_there g pushed i h kind destinations.Registers = refl
loaded_there g pushed i None kind destinations.Pointer = refl
loaded_there g pushed i (Some (homes.Bank b)) kind destinations.Pointer = refl
loaded_there g pushed i (Some (homes.Soft d)) kind destinations.Pointer = refl

-- a whole object is no element of an array
none_typed : (kind : IntType) (e : Extent) → typed_by kind e None ≡ None
none_typed kind One = refl
none_typed kind Two = refl
none_typed kind Three = refl
none_typed kind Four = refl

-- so its lines are those of its place
lines_of_load : (f : Framed) (pushed fresh i : ℕ) (t q : QTy) (kind : IntType) → kind ≡ kind_of (type_in q)
    → expr_code f pushed fresh wanted.Value (load_of t q i) ≡ target_code (object_place f pushed i) (object_code f pushed i ++ arrived (destination_by (extent_of kind))) ++ fetch_code (object_place f pushed i) (access.Whole kind)
lines_of_load f pushed fresh i t q kind is =
    rw is (ap (λ o. element_or o (λ x. loaded_element wanted.Value x []) (target_code (object_place f pushed i) (object_code f pushed i ++ arrived (destination_by (extent_of (kind_of (type_in q))))) ++ fetch_code (object_place f pushed i) (access.Whole (kind_of (type_in q))))) (none_typed (kind_of (type_in q)) (extent_of (kind_of (type_in q)))))

pub objects_are_loaded : ObjectsAreLoaded
objects_are_loaded g a pushed fresh i t q placed scalar same homed fits kept_there =
    let shape : Shape = shape_of (unit_in g).types (type_in q) in
    let place : Place = home_place g pushed i (home_of a.frame i) in
    let kind : IntType = kind_of (type_in q) in
    let base : List _ = object_code a.frame pushed i ++ arrived (destination_by (extent_of kind)) in
    let where_told = told g a pushed i (home_of a.frame i) homed.low fits in
    let lines : expr_code a.frame pushed fresh wanted.Value (load_of t q i) ≡ load_code place (access.Whole (kind_in shape)) =
    lines_of_load a.frame pushed fresh i t q kind refl
    ∙ ap (λ l. target_code l base ++ fetch_code l (access.Whole kind)) where_told.0
    ∙ ap (λ ls. ls ++ fetch_code place (access.Whole kind)) (no_base g pushed i (home_of a.frame i) base)
    ∙ loaded_there g pushed i (home_of a.frame i) kind (destination_by (extent_of kind))
    ∙ ap (λ kind. load_code place (access.Whole kind)) (kind_is (unit_in g).types (type_in q) scalar) in
    let tree : Typed = load_of t q i in
    subst (λ ls. Does g a Valued (shape_in g a tree) (plan (unit_in g) tree) (need tree) pushed ls) (sym lines)
    (subst (λ f. Does g a Valued f (λ k. Name i ∷ Fetch shape ∷ k) (need tree) pushed (load_code place (access.Whole (kind_in shape)))) (sym same)
    (named_are_loaded g a (need tree) pushed i shape place placed scalar homed refl where_told.1 kept_there))
