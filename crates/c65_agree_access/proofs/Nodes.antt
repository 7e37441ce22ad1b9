-- The node of an assignment.
use Rattle.std.proofs.Common.{◌≡◌, ℕ, ◌+◌, ◌<◌, ◌≤◌, max, List, [], ◌∷◌, ◌++◌, length, Option, Some, None, Bool, true, false, refl, sym, ap, ◌∙◌, subst, arith}
use Rattle.std.specs.Prelude.{◌&&◌, if◌then◌else◌}
use Rattle.c65_ints.specs.declared.types.IntType.{IntType}
use Rattle.c65_ctype.specs.Trees.{Ty, QTy, type_in}
use Rattle.c65_ctype.specs.Trees as types
use Rattle.c65_ctype.specs.Views.{types_of}
use Rattle.c65_csem.specs.Trees.{Typed, node, Node, assign, type_of}
use Rattle.c65_csem.specs.Places.{is_place, is_registered, is_tag, is_scalar}
use Rattle.c65_csem.specs.Typed.{IsTyped}
use Rattle.c65_csem_need.specs.Needs.{need}
use Rattle.c65_meaning.specs.Store as values
use Rattle.c65_meaning.specs.Store.{Value, Whole, Null, Opaque, Cells, NoValue, Shape}
use Rattle.c65_meaning.specs.Items.{Item, Put, plan}
use Rattle.c65_meaning.specs.Shapes.{shape_of, place_shape}
use Rattle.c65_meaning.specs.State.{Scene}
use Rattle.c65_code.specs.declared.line.Line.{Line}
use Rattle.c65_code.specs.LineState.{State}
use Rattle.c65_code.specs.Placement.{IsPlacement}
use Rattle.c65_genload.specs.declared.places.Access.{Access}
use Rattle.c65_genload.specs.declared.places.Access.TheVariants.{Whole as whole_access}
use Rattle.c65_genload.specs.declared.places.Extent.{Extent}
use Rattle.c65_genload.specs.declared.places.Place.{Place}
use Rattle.c65_genload.specs.declared.places.Place.TheVariants.{Bank, Near, Data, Far}
use Rattle.c65_genload.specs.Places.{held}
use Rattle.c65_genload.specs.Loads.{hold_code}
use Rattle.c65_genload.specs.Stores.{store_code}
use Rattle.c65_genexpr.specs.declared.destination.Destination.TheVariants.{Registers}
use Rattle.c65_genexpr.specs.declared.storing.Storing.{Storing}
use Rattle.c65_genexpr.specs.declared.storing.Storing.TheVariants.{Stacked}
use Rattle.c65_genexpr.specs.declared.wanted.Wanted.TheVariants.{Value as wanted_value}
use Rattle.c65_genexpr.specs.Storing.{storing_of, assigned_by, base_for, below_value}
use Rattle.c65_genexpr.specs.Places.{more, place_of}
use Rattle.c65_genexpr.specs.Types.{access_of}
use Rattle.c65_genexpr.specs.Uses.{uses}
use Rattle.c65_genexpr.specs.Code.{expr_code, base_code}
use Rattle.c65_agree_store.specs.Stands.{Placing}
use Rattle.c65_agree_state.specs.World.{World, unit_in, Active}
use Rattle.c65_agree_state.specs.Exprs.{Yield, Valued, Placed, Registered, leads_on, is_area, yield_of, Does, shape_in, ExpressionDoes}
use Rattle.c65_agree_assign.specs.Places.{bytes_in, MayHold, extent_in, kind_in}
use Rattle.c65_agree_direct.proofs.Trees.{bare_plain}
use Rattle.c65_agree_access.specs.LoadLaws.{IsWhole}
use Rattle.c65_agree_access.proofs.Wholes.{places_are_whole}
use Rattle.c65_agree_load.specs.Loads.{IsNear}
use Rattle.c65_agree_structures.specs.Areas.{IsInMemory}
use Rattle.c65_agree_structures.specs.Bases.{IsToldBy, TellsPlace}
use Rattle.c65_agree_access.specs.Destinations.{IsInBank, IsToldFor, TellsFor}
use Rattle.c65_agree_access.specs.StoreLaws.{StackedAssignmentsDo}
use Rattle.c65_agree_access.proofs.Stacked.{stacked_does}

-- ---- a scalar tree that is no place gives a value

no_tag : (t : Ty) → is_scalar t ≡ true → is_tag t ≡ false
no_tag (types.int k) h = refl
no_tag (types.pointer q) h = refl
no_tag types.void h = refl
no_tag (types.array q n) h = refl
no_tag (types.function f) h = refl
no_tag (types.tag n) h = absurd cc

scalar_valued : (g : World) (e : Typed) → is_place e ≡ false → is_scalar (type_in (type_of e)) ≡ true → yield_of (unit_in g) e ≡ Valued
scalar_valued g (node s n) plain scalar = ap (λ (b : Bool). if b then (if is_registered (unit_in g) (node s n) then Registered else Placed) else (if is_area (node s n) then Placed else Valued)) plain ∙ ap (λ (b : Bool). if b then Placed else Valued) (none (leads_on n))
  where
    none : (b : Bool) → b && is_tag (type_in s) ≡ false
    none true = no_tag (type_in s) scalar
    none false = refl

-- ---- both sides

-- what typing says of them
pub record AreSides (g : World) (a : Active) (t : QTy) (x y : Typed) : Type 0 where
  pub whole : IsWhole g a x
  pub shape : shape_in g a (node t (assign x y)) ≡ shape_in g a x
  pub right : shape_in g a y ≡ shape_in g a x
  pub valued : yield_of (unit_in g) y ≡ Valued

pub are_sides : (g : World) (a : Active) (t : QTy) (x y : Typed) → IsTyped (unit_in g) (node t (assign x y)) → IsWhole g a x → AreSides g a t x y
are_sides g a t x y typed whole =
    let same : type_in t ≡ type_in (type_of x) = ap type_in typed.3 ∙ bare_plain (type_of x) in
    let right : type_in (type_of y) ≡ type_in (type_of x) = ap type_in typed.5 ∙ same in
    record {
      whole = whole;
      shape = ap (shape_of (unit_in g).types) same;
      right = ap (shape_of (unit_in g).types) right;
      valued = scalar_valued g y typed.4 (subst (λ ty. is_scalar ty ≡ true) (sym right) typed.2.1);
    }

pub right_does : (g : World) (a : Active) (t : QTy) (x y : Typed) → AreSides g a t x y → ExpressionDoes g a y → (pushed fresh : ℕ) → Does g a Valued (shape_in g a x) (plan (unit_in g) y) (need y) pushed (expr_code a.frame pushed fresh wanted_value y)
right_does g a t x y sides does pushed fresh =
    subst (λ f. Does g a Valued f (plan (unit_in g) y) (need y) pushed (expr_code a.frame pushed fresh wanted_value y)) sides.right
    (subst (λ (z : Yield). Does g a z (shape_in g a y) (plan (unit_in g) y) (need y) pushed (expr_code a.frame pushed fresh wanted_value y)) sides.valued (does pushed fresh))

-- ---- the left side

memory_told : (g : World) (a : Active) (place : Place) (extent : Extent) (c : Scene) (w : Placing) (t : State) (v : Value) → IsToldBy g a place c w t v → IsToldFor g a place extent c w t v
memory_told g a (Bank i) extent c w t (values.Place b o) told = absurd told.2
memory_told g a (Near i) extent c w t (values.Place b o) told = (told.0, told.1, tt)
memory_told g a (Data s i) extent c w t (values.Place b o) told = (told.0, tt, tt)
memory_told g a (Far i) extent c w t (values.Place b o) told = (told.0, tt, tt)
memory_told g a place extent c w t (Whole z) told = tt
memory_told g a place extent c w t Null told = tt
memory_told g a place extent c w t Opaque told = tt
memory_told g a place extent c w t (Cells xs) told = tt
memory_told g a place extent c w t NoValue told = tt

pub told_in_memory : (g : World) (a : Active) (work : List Item → List Item) (needs pushed : ℕ) (place : Place) (extent : Extent) (lines : List Line) → TellsPlace g a work needs pushed place lines → TellsFor g a work needs pushed place extent lines
told_in_memory g a work needs pushed place extent lines tells n w p k vs c q b t seen has r turned rest =
    tells n w p k vs c q b t seen has r turned (λ j v c2 q2 b2 u later lt kept told turned2. rest j v c2 q2 b2 u later lt kept (memory_told g a place extent c2 q2 u v told) turned2)

-- ---- the whole

-- lines of this form, from those of both sides
pub stacked_lines_are : (a : Active) (pushed fresh : ℕ) (t : QTy) (x y : Typed) (kind : IntType) → storing_of a.frame pushed x y ≡ Stacked → access_of (types_of a.frame.parts.types) x ≡ whole_access kind
    → expr_code a.frame pushed fresh wanted_value (node t (assign x y))
    ≡ base_code a.frame pushed fresh Registers x ++ (hold_code (place_of a.frame pushed x) ++ (expr_code a.frame (more pushed (held (place_of a.frame pushed x))) (fresh + uses None x) wanted_value y ++ store_code (place_of a.frame pushed x) (whole_access kind)))
stacked_lines_are a pushed fresh t x y kind how is =
    let place : Place = place_of a.frame pushed x in
    ap (λ (z : Storing). assigned_by z place (access_of (types_of a.frame.parts.types) x) (base_code a.frame pushed fresh (base_for z) x) (expr_code a.frame (below_value z pushed place) (fresh + uses None x) wanted_value y)) how
    ∙ ap (λ (z : Access). base_code a.frame pushed fresh Registers x ++ (hold_code place ++ (expr_code a.frame (more pushed (held place)) (fresh + uses None x) wanted_value y ++ store_code place z))) is

-- an assignment by its sides
pub by_stacked : (g : World) (a : Active) (pushed fresh : ℕ) (t : QTy) (x y : Typed) → IsPlacement g.code g.place → AreSides g a t x y → storing_of a.frame pushed x y ≡ Stacked
    → TellsFor g a (plan (unit_in g) x) (need x) pushed (place_of a.frame pushed x) (extent_in (shape_in g a x)) (base_code a.frame pushed fresh Registers x) → ExpressionDoes g a y
    → Does g a Valued (shape_in g a (node t (assign x y))) (plan (unit_in g) (node t (assign x y))) (need (node t (assign x y))) pushed (expr_code a.frame pushed fresh wanted_value (node t (assign x y)))
by_stacked g a pushed fresh t x y placed sides how tells does =
    let f : Shape = shape_in g a x in
    let place : Place = place_of a.frame pushed x in
    let base : List Line = base_code a.frame pushed fresh Registers x in
    let right : List Line = expr_code a.frame (more pushed (held place)) (fresh + uses None x) wanted_value y in
    let work : Shape → List Item → List Item = λ z k. plan (unit_in g) x (plan (unit_in g) y (Put z ∷ k)) in
    let all : List Line = base ++ (hold_code place ++ (right ++ store_code place (whole_access (kind_in f)))) in
    subst (λ ls. Does g a Valued (shape_in g a (node t (assign x y))) (plan (unit_in g) (node t (assign x y))) (max (need x) (1 + need y)) pushed ls) (sym (stacked_lines_are a pushed fresh t x y (kind_in f) how sides.whole.access))
    (subst (λ z. Does g a Valued z (work (place_shape (unit_in g).types x)) (max (need x) (1 + need y)) pushed all) (sym sides.shape)
    (subst (λ z. Does g a Valued f (work z) (max (need x) (1 + need y)) pushed all) (sym sides.whole.shape)
    (stacked_does g a placed f sides.whole.scalar (need x) (need y) pushed (plan (unit_in g) x) (plan (unit_in g) y) place base right tells (right_does g a t x y sides does (more pushed (held place)) (fresh + uses None x)))))

pub stacked_assignments_do : StackedAssignmentsDo
stacked_assignments_do g a pushed t x y placed parts typed plain how base does fresh =
    let sides : AreSides g a t x y = are_sides g a t x y typed (places_are_whole g a x parts typed.2 plain) in
    by_stacked g a pushed fresh t x y placed sides how (told_in_memory g a (plan (unit_in g) x) (need x) pushed (place_of a.frame pushed x) (extent_in (shape_in g a x)) (base_code a.frame pushed fresh Registers x) (base pushed fresh)) does
