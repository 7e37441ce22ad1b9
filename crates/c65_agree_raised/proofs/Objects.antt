-- Parameters that lie higher are told by their addresses.
use Rattle.std.proofs.Common.{◌≡◌, ℕ, ◌+◌, List, [], ◌∷◌, ◌++◌, Option, Some, None, Bool, true, false, length, sym, ap, ◌∙◌, subst, arith}
use Rattle.std.specs.Prelude.{if◌then◌else◌, ◌&&◌}
use Rattle.c65_csem.specs.Trees.{node, object}
use Rattle.c65_csem.specs.Places.{is_registered}
use Rattle.c65_csem_need.specs.Needs.{need}
use Rattle.c65_meaning.specs.Store as values
use Rattle.c65_meaning.specs.Store.{Value, Whole, Null, Opaque, Cells, NoValue, Shape}
use Rattle.c65_meaning.specs.Items.{Item, plan}
use Rattle.c65_meaning.specs.State.{Scene, Running}
use Rattle.c65_code.specs.declared.line.Line.{Line}
use Rattle.c65_code.specs.LineState.{State, ax_of}
use Rattle.c65_genframe.specs.declared.home.Home.{Home}
use Rattle.c65_genframe.specs.declared.home.Home.TheVariants as homes
use Rattle.c65_genframe.specs.Frames.{Framed, home_of, lies_above, is_raised}
use Rattle.c65_genload.specs.declared.places.Place.{Place}
use Rattle.c65_genload.specs.declared.places.Place.TheVariants.{Far}
use Rattle.c65_genexpr.specs.declared.destination.Destination.TheVariants.{Registers}
use Rattle.c65_genexpr.specs.declared.wanted.Wanted.TheVariants as wanted
use Rattle.c65_genexpr.specs.Places.{more, soft_place, place_at, object_place, object_code, place_of, target_code}
use Rattle.c65_genexpr.specs.Code.{expr_code, base_code}
use Rattle.c65_agree_store.specs.Stands.{At, Placing, ValueIs}
use Rattle.c65_agree_state.specs.World.{World, unit_in, Active, lines_of, place_in, HasAt, HasTurns}
use Rattle.c65_agree_state.specs.Follows.{Follows}
use Rattle.c65_agree_state.specs.Exprs.{Placed, Registered, ResultIs, Does, shape_in, width_in}
use Rattle.c65_agree_frame.proofs.Entries.{append_end}
use Rattle.c65_agree_addresses.proofs.Objects.{objects_are_placed}
use Rattle.c65_agree_structures.specs.Bases.{IsToldBy}
use Rattle.c65_agree_structures.proofs.Bases.{far_is_meant}
use Rattle.c65_agree_raised.specs.Objects.{AddressedAreExpressions, RaisedAreBases}

-- ---- as an expression

-- a place in memory is also one that an object of class register may have
registered_result : (w : Placing) (shape : Shape) (v : Value) (t : State) → ResultIs Placed w (width_in shape) v t → ResultIs Registered w (width_in shape) v t
registered_result w shape (values.Place b o) t r = λ at e.
    let same : Some (At at) ≡ Some (At r.0) = sym e ∙ r.1 in
    let one : at ≡ r.0 = cc in
    r.2 ∙ ap (λ n. n + o) (sym one)
registered_result w shape (Whole z) t r = tt
registered_result w shape Null t r = tt
registered_result w shape Opaque t r = tt
registered_result w shape (Cells xs) t r = tt
registered_result w shape NoValue t r = tt

module _ (g : World) (a : Active) (shape : Shape) (work : List Item → List Item) (needs pushed : ℕ) (lines : List Line) where
  as_register : Does g a Placed shape work needs pushed lines → (r : Bool) → Does g a (if r then Registered else Placed) shape work needs pushed lines
  as_register does false = does
  as_register does true = λ n weight p k vs c w b t seen has ready turns rest.
      does n weight p k vs c w b t seen has ready turns (λ j v c2 w2 b2 u later lt done turned.
      rest j v c2 w2 b2 u later lt (record { kept = done.kept; result = registered_result w2 shape v u done.result; fits = done.fits }) turned)

pub addressed_are_expressions : AddressedAreExpressions
addressed_are_expressions g a t i placed parts addressed = (
  λ pushed fresh. as_register g a (shape_in g a (node t (object i))) (plan (unit_in g) (node t (object i))) (need (node t (object i))) pushed (expr_code a.frame pushed fresh wanted.Value (node t (object i))) (does pushed fresh) (is_registered (unit_in g) (node t (object i))),
  λ pushed fresh. does pushed fresh,
)
  where
    does : (pushed fresh : ℕ) → Does g a Placed (shape_in g a (node t (object i))) (plan (unit_in g) (node t (object i))) (need (node t (object i))) pushed (expr_code a.frame pushed fresh wanted.Value (node t (object i)))
    does pushed fresh = objects_are_placed g a (shape_in g a (node t (object i))) (need (node t (object i))) pushed i placed parts addressed

-- ---- as a base

both_true : (x y : Bool) → x && y ≡ true → y ≡ true
both_true true y e = e
both_true false y e = absurd (cc)

raised_place : (f : Framed) (pushed i : ℕ) → is_raised f i ≡ true → object_place f pushed i ≡ Far 0
raised_place f pushed i e = go (home_of f i) (both_true f.variadic (lies_above f.soft (home_of f i)) e)
  where
    go : (h : Option Home) → lies_above f.soft h ≡ true → place_at f pushed i h ≡ Far 0
    go None above = absurd (cc)
    go (Some (homes.Bank b)) above = absurd (cc)
    go (Some (homes.Soft d)) above = ap (λ r. soft_place r (more d pushed)) e

told : (g : World) (a : Active) (c : Scene) (w : Placing) (t : State) (v : Value) → ValueIs w 65536 v (ax_of t) → IsToldBy g a (Far 0) c w t v
told g a c w t (values.Place b o) is = (far_is_meant g a c w t b o is, omega arith, tt)
told g a c w t (Whole z) is = tt
told g a c w t Null is = tt
told g a c w t Opaque is = tt
told g a c w t (Cells xs) is = tt
told g a c w t NoValue is = tt

pub raised_are_bases : RaisedAreBases
raised_are_bases g a t i placed parts addressed raised pushed fresh n weight p k vs c w b s seen has ready turns rest =
    objects_are_placed g a (shape_in g a (node t (object i))) (need (node t (object i))) pushed i placed parts addressed n weight p k vs c w b s seen (subst (HasAt (lines_of g a) p) lines_are has) ready turns (λ j v c2 w2 b2 u later lt done turned.
    subst (λ ls. Follows g j (weight + 2600) (Running k (v ∷ vs) c2) (place_in g a (p + length ls)) u later) lines_are
    (rest j v c2 w2 b2 u later lt done.kept (subst (λ place. IsToldBy g a place c2 w2 u v) (sym place_is) (told g a c2 w2 u v done.result)) (subst (λ ls. HasTurns g c2.turns (place_in g a (p + length ls)) later) (sym lines_are) turned)))
  where
    place_is : place_of a.frame pushed (node t (object i)) ≡ Far 0
    place_is = raised_place a.frame pushed i raised

    lines_are : base_code a.frame pushed fresh Registers (node t (object i)) ≡ object_code a.frame pushed i
    lines_are = ap (λ place. target_code place (object_code a.frame pushed i ++ [])) place_is ∙ append_end (object_code a.frame pushed i)
