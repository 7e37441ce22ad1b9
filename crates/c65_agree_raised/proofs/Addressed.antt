-- Parameters that lie higher stand in memory.
use Rattle.std.proofs.Common.{◌≡◌, ℕ, ◌+◌, ◌<◌, ◌≤◌, Bool, true, false, Option, Some, None, List, [], ◌∷◌, refl, sym, ap, ◌∙◌, subst, arith}
use Rattle.std.specs.Prelude.{◌&&◌, ◌==◌, if◌then◌else◌, All}
use Rattle.std.proofs.lemmas.Bool.{eqb-true}
use Rattle.std.proofs.lemmas.List.Elements.{All-head, All-tail}
use Rattle.c65_csem.specs.declared.items.Class.{Class}
use Rattle.c65_csem.specs.declared.items.Class.TheVariants.{External, Tentative, Declared, Static, Auto, Register, Fixed}
use Rattle.c65_csem.specs.Places.{is_automatic, is_framed}
use Rattle.c65_csem.specs.Trees.{Stmt, UnitTy, FuncTy}
use Rattle.c65_csem.specs.Units.{IsParam, HasBody}
use Rattle.c65_csem_plain.specs.Plain.{IsPlainObject}
use Rattle.c65_meaning.specs.Shapes.{object_in, object_size, lives_in_frame}
use Rattle.c65_meaning.specs.After.{is_among}
use Rattle.c65_code.specs.Placement.{program_start, stack_end}
use Rattle.c65_genframe.specs.declared.home.Home.{Home}
use Rattle.c65_genframe.specs.declared.home.Home.TheVariants.{Bank, Soft}
use Rattle.c65_genframe.specs.Frames.{home_of, lies_above, is_raised}
use Rattle.c65_agree_store.specs.Stands.{At}
use Rattle.c65_agree_start.proofs.Given.{all_at}
use Rattle.c65_agree_state.specs.World.{World, unit_in, Active}
use Rattle.c65_agree_state.specs.Joins.{home_spot, spot_of, call_bytes}
use Rattle.c65_meaning.specs.Step.{params_of}
use Rattle.c65_agree_enter.specs.Entries.{HaveHomes}
use Rattle.c65_agree_homes.specs.Frames.{IsCallIn}
use Rattle.c65_agree_homes.proofs.Own.{has_body}
use Rattle.c65_agree_homes.proofs.Params.{parameters_have_homes}
use Rattle.c65_agree_raised.specs.Objects.{RaisedAreAddressed}

param_first : (u : UnitTy) (j i : ℕ) (is : List ℕ) → All (IsParam u) (j ∷ is) → (is_among is i ≡ true → IsParam u i) → (b : Bool) → (j == i) ≡ b → (if b then true else is_among is i) ≡ true → IsParam u i
param_first u j i is all more true f h = subst (IsParam u) (eqb-true j i f) (All-head (IsParam u) j is all)
param_first u j i is all more false f h = more h

param_among : (u : UnitTy) (is : List ℕ) (i : ℕ) → All (IsParam u) is → is_among is i ≡ true → IsParam u i
param_among u [] i all e = absurd (cc)
param_among u (j ∷ is) i all e = param_first u j i is all (λ h. param_among u is i (All-tail (IsParam u) j is all) h) (j == i) refl e

both_true : (x y : Bool) → x && y ≡ true → y ≡ true
both_true true y e = e
both_true false y e = absurd (cc)

class_lives : (c : Class) → is_framed c ≡ true → is_automatic c ≡ true
class_lives Auto e = refl
class_lives Register e = refl
class_lives Fixed e = refl
class_lives External e = absurd (cc)
class_lives Tentative e = absurd (cc)
class_lives Declared e = absurd (cc)
class_lives Static e = absurd (cc)

module _ (g : World) (names : List (List ℕ)) (a : Active) (f : FuncTy) (i : ℕ) (h : IsCallIn g names a f) (low : program_start ≤ a.base) (high : a.base + call_bytes a ≤ stack_end) (among : is_among f.params i ≡ true) (raised : is_raised a.frame i ≡ true) where
  param : IsParam (unit_in g) i
  param = go f.body (has_body g names a f h a.func f h.function)
    where
      go : (body : Option Stmt) → HasBody (unit_in g) f body → IsParam (unit_in g) i
      go None none = let clash : true ≡ false = sym among ∙ ap (λ is. is_among is i) none in absurd (cc)
      go (Some body) is = param_among (unit_in g) f.params i is.params among

  lives : lives_in_frame (object_in (unit_in g) i) ≡ true
  lives = ap lives_in_frame param.framed.0 ∙ class_lives param.object.class param.framed.1

  least : 0 < object_size (unit_in g).types (object_in (unit_in g) i)
  least =
      let plain : IsPlainObject names (unit_in g) param.object = all_at (IsPlainObject names (unit_in g)) (unit_in g).objects i param.object h.plain.objects param.framed.0 in
      let same : object_size (unit_in g).types (object_in (unit_in g) i) ≡ object_size (unit_in g).types (Some param.object) = ap (object_size (unit_in g).types) param.framed.0 in
      omega (arith, plain.bytes.some, same)

  homes : HaveHomes g a f.params
  homes = subst (HaveHomes g a) (ap params_of h.function) (parameters_have_homes g names a f h low high).0

  record IsSoft : Type 0 where
    at : ℕ
    spot : spot_of g a i ≡ At at

  soft : IsSoft
  soft = go (home_of a.frame i) refl (both_true a.frame.variadic (lies_above a.frame.soft (home_of a.frame i)) raised)
    where
      go : (o : Option Home) → home_of a.frame i ≡ o → lies_above a.frame.soft o ≡ true → IsSoft
      go None e k = absurd (cc)
      go (Some (Bank b)) e k = absurd (cc)
      go (Some (Soft d)) e k = record { at = a.base + d + (if is_raised a.frame i then a.raised else 0); spot = ap (home_spot g a i) e }

pub raised_are_addressed : RaisedAreAddressed
raised_are_addressed g names a f i h low high among raised =
    let s = soft g names a f i h low high among raised in
    let inside = (homes g names a f i h low high among raised).within i s.at 0 among s.spot (least g names a f i h low high among raised) in
    record {
      at = s.at;
      spot = s.spot;
      below = omega (arith, inside, high);
      fixed = λ e. absurd (let clash : true ≡ false = sym (lives g names a f i h low high among raised) ∙ e in cc);
    }
