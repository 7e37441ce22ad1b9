-- All forms of an assignment of a number or a pointer.
use Rattle.std.proofs.Common.{◌≡◌, ℕ, ◌+◌, inl, inr, List, [], ◌∷◌, ◌++◌, length, Option, Bool, true, false, refl, sym, ap, subst, arith}
use Rattle.std.specs.Prelude.{option_and_then}
use Rattle.c65_ints.specs.declared.types.IntType.{IntType}
use Rattle.c65_ctype.specs.Trees.{QTy}
use Rattle.c65_csem.specs.Trees.{Typed, node, constant, null, literal, object, func, deref, member, load, address, decay, convert, unary, binary, both, either, choice, comma, assign, assign_op, assign_step, step, copy, call, pack, spill, rest}
use Rattle.c65_csem.specs.Places.{is_bit_field}
use Rattle.c65_csem.specs.Typed.{IsTyped}
use Rattle.c65_csem_need.specs.Needs.{need}
use Rattle.c65_meaning.specs.Store.{Shape, Number, Field, Pointer, Area}
use Rattle.c65_meaning.specs.Items.{Item, plan}
use Rattle.c65_meaning.specs.State.{Running}
use Rattle.c65_code.specs.declared.line.Line.{Line}
use Rattle.c65_code.specs.Placement.{IsPlacement}
use Rattle.c65_genload.specs.declared.places.Access.{Access}
use Rattle.c65_genload.specs.declared.places.Access.TheVariants as accesses
use Rattle.c65_genload.specs.declared.places.Place.{Place}
use Rattle.c65_genload.specs.declared.places.Place.TheVariants.{Bank, Near, Data, Far}
use Rattle.c65_genload.specs.Places.{extent_of}
use Rattle.c65_gendirect.specs.declared.direct.Direct.{Direct}
use Rattle.c65_gendirect.specs.declared.through.Stored.{Stored}
use Rattle.c65_genexpr.specs.declared.storing.Storing.{Storing}
use Rattle.c65_genexpr.specs.declared.storing.Storing.TheVariants.{Left, RightByte, RightWord, HeldByte, HeldWord, Stacked}
use Rattle.c65_genexpr.specs.declared.wanted.Wanted.TheVariants.{Value as wanted_value}
use Rattle.c65_genexpr.specs.Direct.{direct_of, is_pure}
use Rattle.c65_genexpr.specs.Operating.{is_light, word_in}
use Rattle.c65_genexpr.specs.Storing.{storing_of, storing_by, bytes_stored, unless_changed, pointer_of, held_if, or_held}
use Rattle.c65_genexpr.specs.Places.{place_at, place_of, target_code, code_at}
use Rattle.c65_genexpr.specs.Code.{expr_code, base_code}
use Rattle.c65_genexpr.specs.declared.destination.Destination.TheVariants.{Registers}
use Rattle.c65_genframe.specs.declared.home.Home.{Home}
use Rattle.c65_agree_state.specs.World.{World, unit_in, Active, place_in}
use Rattle.c65_agree_state.specs.Exprs.{Yield, Valued, Does, shape_in, ExpressionDoes}
use Rattle.c65_agree_state.proofs.Followed.{follows_weaken}
use Rattle.c65_agree_put.specs.Laws.{IsScalar}
use Rattle.c65_agree_assign.specs.Places.{extent_in, kind_in}
use Rattle.c65_agree_access.specs.Destinations.{TellsFor}
use Rattle.c65_agree_direct.specs.Laws.{IsFrameOf}
use Rattle.c65_agree_operate.specs.Manners.{usual, Where, IsHeld, DoesIn}
use Rattle.c65_agree_structures.specs.Bases.{BaseDoes}
use Rattle.c65_agree_access.specs.Pointed.{PointedDoes}
use Rattle.c65_agree_access.specs.StoreLaws.{AssignmentDoes, IsHeldForm}
use Rattle.c65_agree_access.proofs.Wholes.{places_are_whole}
use Rattle.c65_agree_access.proofs.Nodes.{AreSides, are_sides, stacked_assignments_do}
use Rattle.c65_agree_access.proofs.BankedStores.{bank_told, banked_assignments_do}
use Rattle.c65_agree_access.proofs.HeldNodes.{no_stacked, by_value_form, held_assignments_do}
use Rattle.c65_agree_access.proofs.LeftNodes.{left_assignments_do}
use Rattle.c65_agree_assigned.specs.Laws.{AreLocated, IsBanked, IsDestination, ValueDoes, AssignmentsDo}
use Rattle.c65_agree_assigned.proofs.RightNodes.{right_assignments_do}
use Rattle.c65_agree_assigned.proofs.LeftPointers.{left_pointers_do}

-- ---- what lines leave may be left out

module _ (g : World) (a : Active) (pure light : Bool) (yield : Yield) (f : Shape) (work : List Item → List Item) (needs pushed : ℕ) (lines : List Line) (does : DoesIn g a (record usual { pure = pure; light = light }) yield f work needs pushed lines) where
  as_pure : DoesIn g a (record usual { pure = pure }) yield f work needs pushed lines
  as_pure n w p k vs c q b t seen has r turns goes = does n w p k vs c q b t seen has r turns (λ j v c2 q2 b2 u later lt done left turned. goes j v c2 q2 b2 u later lt done (record { scene = left.scene; held = tt }) turned)

  as_light : light ≡ true → DoesIn g a (record usual { light = true }) yield f work needs pushed lines
  as_light is n w p k vs c q b t seen has r turns goes =
      does n w p k vs c q b t seen has r turns (λ j v c2 q2 b2 u later lt done left turned. goes j v c2 q2 b2 u later lt done (record { scene = tt; held = subst (λ z. Where z (IsHeld t u)) is left.held }) turned)

  as_usual : Does g a yield f work needs pushed lines
  as_usual n w p k vs c q b t seen has r turns goes =
      does n w p k vs c q b t seen has r turns (λ j v c2 q2 b2 u later lt done left turned.
      follows_weaken g j (w + 2600) (w + 2600 + 0) (Running k (v ∷ vs) c2) (place_in g a (p + length lines)) u later (omega arith) (goes j v c2 q2 b2 u later lt done turned))

-- ---- only a light value waits for an address in ptr2

held_is_light : (at : ℕ) (place : Place) (kind : IntType) (x y : Option Direct) (light : Bool) → IsHeldForm (or_held (storing_by place (accesses.Whole kind) x y) (held_if light place (accesses.Whole kind))) at → light ≡ true
held_is_light at place kind x y true h = refl
held_is_light at (Far off) kind x y false h =
    absurd (no_stacked at (subst (λ how. IsHeldForm how at) (by_value_form off at (option_and_then (bytes_stored (extent_of kind)) y) (extent_of kind) (option_and_then word_in x) Stacked h) h))
held_is_light at (Bank i) kind x y false h = absurd (no_stacked at h)
held_is_light at (Near i) kind x y false h = absurd (no_stacked at h)
held_is_light at (Data s i) kind x y false h = absurd (no_stacked at h)

-- ---- each form

module _ (g : World) (a : Active) (t : QTy) (x y : Typed) (placed : IsPlacement g.code g.place) (frame : IsFrameOf g a) (typed : IsTyped (unit_in g) (node t (assign x y))) (plain : is_bit_field (unit_in g).types x ≡ false) (located : AreLocated g a y) (value : ValueDoes g a y) where
  sides : AreSides g a t x y
  sides = are_sides g a t x y typed (places_are_whole g a x frame.parts typed.2 plain)

  expression : ExpressionDoes g a y
  expression pushed fresh =
      subst (λ (z : Yield). Does g a z (shape_in g a y) (plan (unit_in g) y) (need y) pushed (expr_code a.frame pushed fresh wanted_value y)) (sym sides.valued)
      (as_usual g a (is_pure y) (is_light a.frame pushed y) Valued (shape_in g a y) (plan (unit_in g) y) (need y) pushed (expr_code a.frame pushed fresh wanted_value y) (value pushed fresh))

  light_value : (pushed at : ℕ) → IsHeldForm (storing_of a.frame pushed x y) at → (fresh : ℕ) → DoesIn g a (record usual { light = true }) Valued (shape_in g a y) (plan (unit_in g) y) (need y) pushed (expr_code a.frame pushed fresh wanted_value y)
  light_value pushed at form fresh =
      let place : Place = place_of a.frame pushed x in
      let pointer : Option Direct = unless_changed (is_pure y) (pointer_of a.frame pushed x) in
      let how_is : Access → Storing = λ z. or_held (storing_by place z pointer (direct_of a.frame pushed y)) (held_if (is_light a.frame pushed y) place z) in
      let is : is_light a.frame pushed y ≡ true = held_is_light at place (kind_in (shape_in g a x)) pointer (direct_of a.frame pushed y) (is_light a.frame pushed y) (subst (λ z. IsHeldForm z at) (ap how_is sides.whole.access) form) in
      as_light g a (is_pure y) (is_light a.frame pushed y) Valued (shape_in g a y) (plan (unit_in g) y) (need y) pushed (expr_code a.frame pushed fresh wanted_value y) (value pushed fresh) is

  pure_value : (pushed fresh : ℕ) → DoesIn g a (record usual { pure = is_pure y }) Valued (shape_in g a y) (plan (unit_in g) y) (need y) pushed (expr_code a.frame pushed fresh wanted_value y)
  pure_value pushed fresh = as_pure g a (is_pure y) (is_light a.frame pushed y) Valued (shape_in g a y) (plan (unit_in g) y) (need y) pushed (expr_code a.frame pushed fresh wanted_value y) (value pushed fresh)

  left_does : (pushed at : ℕ) (stored : Stored) → storing_of a.frame pushed x y ≡ Left at stored → PointedDoes g a x → (f : Shape) → shape_in g a x ≡ f → AssignmentDoes g a pushed t x y
  left_does pushed at stored form pointed (Number kind) shape = left_assignments_do g a pushed at stored t x y kind placed frame typed plain shape form pointed
  left_does pushed at stored form pointed (Pointer size) shape = left_pointers_do g a pushed at size stored t x y placed frame typed plain shape form located pointed
  left_does pushed at stored form pointed (Field kind low width) shape = absurd (subst IsScalar shape sides.whole.scalar)
  left_does pushed at stored form pointed (Area n) shape = absurd (subst IsScalar shape sides.whole.scalar)

  in_memory : BaseDoes g a x → PointedDoes g a x → (pushed : ℕ) (how : Storing) → storing_of a.frame pushed x y ≡ how → AssignmentDoes g a pushed t x y
  in_memory base pointed pushed Stacked form = stacked_assignments_do g a pushed t x y placed frame.parts typed plain form base expression
  in_memory base pointed pushed (Left at stored) form = left_does pushed at stored form pointed (shape_in g a x) refl
  in_memory base pointed pushed (RightByte at low high) form = right_assignments_do g a pushed at low high t x y placed frame typed plain (inl form) (pure_value pushed)
  in_memory base pointed pushed (RightWord at low high) form = right_assignments_do g a pushed at low high t x y placed frame typed plain (inr form) (pure_value pushed)
  in_memory base pointed pushed (HeldByte at) form = held_assignments_do g a pushed at t x y placed frame.parts typed plain (inl form) base (light_value pushed at (inl form))
  in_memory base pointed pushed (HeldWord at) form = held_assignments_do g a pushed at t x y placed frame.parts typed plain (inr form) base (light_value pushed at (inr form))

-- ---- in regbank

banked_does : (g : World) (a : Active) (t : QTy) (x y : Typed) → IsPlacement g.code g.place → IsFrameOf g a → IsTyped (unit_in g) (node t (assign x y)) → IsBanked g a x → ExpressionDoes g a y → ExpressionDoes g a (node t (assign x y))
banked_does g a t (node s (object i)) y placed frame typed banked does = banked_assignments_do g a t s i banked.0 y placed frame.parts typed banked.1 banked.2 banked.3 banked.4 does
banked_does g a t (node s (constant z)) y placed frame typed banked does = absurd banked
banked_does g a t (node s null) y placed frame typed banked does = absurd banked
banked_does g a t (node s (literal n)) y placed frame typed banked does = absurd banked
banked_does g a t (node s (func i)) y placed frame typed banked does = absurd banked
banked_does g a t (node s (deref e)) y placed frame typed banked does = absurd banked
banked_does g a t (node s (member e m)) y placed frame typed banked does = absurd banked
banked_does g a t (node s (load e)) y placed frame typed banked does = absurd banked
banked_does g a t (node s (address e)) y placed frame typed banked does = absurd banked
banked_does g a t (node s (decay e)) y placed frame typed banked does = absurd banked
banked_does g a t (node s (convert e)) y placed frame typed banked does = absurd banked
banked_does g a t (node s (unary op e)) y placed frame typed banked does = absurd banked
banked_does g a t (node s (binary op u v)) y placed frame typed banked does = absurd banked
banked_does g a t (node s (both u v)) y placed frame typed banked does = absurd banked
banked_does g a t (node s (either u v)) y placed frame typed banked does = absurd banked
banked_does g a t (node s (choice u v z)) y placed frame typed banked does = absurd banked
banked_does g a t (node s (comma u v)) y placed frame typed banked does = absurd banked
banked_does g a t (node s (assign u v)) y placed frame typed banked does = absurd banked
banked_does g a t (node s (assign_op op k u v)) y placed frame typed banked does = absurd banked
banked_does g a t (node s (assign_step op u v)) y placed frame typed banked does = absurd banked
banked_does g a t (node s (step how e)) y placed frame typed banked does = absurd banked
banked_does g a t (node s (copy u v)) y placed frame typed banked does = absurd banked
banked_does g a t (node s (call e es)) y placed frame typed banked does = absurd banked
banked_does g a t (node s (pack e)) y placed frame typed banked does = absurd banked
banked_does g a t (node s (spill i e)) y placed frame typed banked does = absurd banked
banked_does g a t (node s rest) y placed frame typed banked does = absurd banked

-- its place is told without a line
pub banked_told : (g : World) (a : Active) (x : Typed) → IsBanked g a x → (pushed fresh : ℕ) → TellsFor g a (plan (unit_in g) x) (need x) pushed (place_of a.frame pushed x) (extent_in (shape_in g a x)) (base_code a.frame pushed fresh Registers x)
banked_told g a (node s (object i)) banked pushed fresh =
    let x : Typed = node s (object i) in
    let there : place_of a.frame pushed x ≡ Bank banked.0 = ap (place_at a.frame pushed i) banked.2 in
    let base : base_code a.frame pushed fresh Registers x ≡ [] = ap (λ (h : Option Home). target_code (place_at a.frame pushed i h) (code_at a.frame pushed i h ++ [])) banked.2 in
    subst (λ z. TellsFor g a (plan (unit_in g) x) 0 pushed z (extent_in (shape_in g a x)) (base_code a.frame pushed fresh Registers x)) (sym there)
    (subst (TellsFor g a (plan (unit_in g) x) 0 pushed (Bank banked.0) (extent_in (shape_in g a x))) (sym base) (bank_told g a s i banked.0 banked.1 banked.2 (extent_in (shape_in g a x)) banked.3 banked.4 pushed))
banked_told g a (node s (constant z)) banked pushed fresh = absurd banked
banked_told g a (node s null) banked pushed fresh = absurd banked
banked_told g a (node s (literal n)) banked pushed fresh = absurd banked
banked_told g a (node s (func i)) banked pushed fresh = absurd banked
banked_told g a (node s (deref e)) banked pushed fresh = absurd banked
banked_told g a (node s (member e m)) banked pushed fresh = absurd banked
banked_told g a (node s (load e)) banked pushed fresh = absurd banked
banked_told g a (node s (address e)) banked pushed fresh = absurd banked
banked_told g a (node s (decay e)) banked pushed fresh = absurd banked
banked_told g a (node s (convert e)) banked pushed fresh = absurd banked
banked_told g a (node s (unary op e)) banked pushed fresh = absurd banked
banked_told g a (node s (binary op u v)) banked pushed fresh = absurd banked
banked_told g a (node s (both u v)) banked pushed fresh = absurd banked
banked_told g a (node s (either u v)) banked pushed fresh = absurd banked
banked_told g a (node s (choice u v z)) banked pushed fresh = absurd banked
banked_told g a (node s (comma u v)) banked pushed fresh = absurd banked
banked_told g a (node s (assign u v)) banked pushed fresh = absurd banked
banked_told g a (node s (assign_op op k u v)) banked pushed fresh = absurd banked
banked_told g a (node s (assign_step op u v)) banked pushed fresh = absurd banked
banked_told g a (node s (step how e)) banked pushed fresh = absurd banked
banked_told g a (node s (copy u v)) banked pushed fresh = absurd banked
banked_told g a (node s (call e es)) banked pushed fresh = absurd banked
banked_told g a (node s (pack e)) banked pushed fresh = absurd banked
banked_told g a (node s (spill i e)) banked pushed fresh = absurd banked
banked_told g a (node s rest) banked pushed fresh = absurd banked

pub assignments_do : AssignmentsDo
assignments_do g a t x y placed frame typed plain located destination value pushed fresh = by destination
  where
    by : IsDestination g a x → Does g a Valued (shape_in g a (node t (assign x y))) (plan (unit_in g) (node t (assign x y))) (need (node t (assign x y))) pushed (expr_code a.frame pushed fresh wanted_value (node t (assign x y)))
    by (inl told) = in_memory g a t x y placed frame typed plain located value told.0 told.1 pushed (storing_of a.frame pushed x y) refl fresh
    by (inr banked) = banked_does g a t x y placed frame typed banked (expression g a t x y placed frame typed plain located value) pushed fresh
