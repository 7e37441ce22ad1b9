-- Objects that take what calls give.
use Rattle.std.proofs.Common.{◌≡◌, ℕ, ◌<◌, ◌⊎◌, inl, inr, Option, Some, None, List, [], ◌∷◌, Bool, true, false, refl, sym, ap, ◌∙◌, subst, arith}
use Rattle.std.specs.Prelude.{◌&&◌, if◌then◌else◌, is_some, All, IsTrue}
use Rattle.std.proofs.lemmas.Bool.{and_right, lt-leb}
use Rattle.std.proofs.lemmas.List.Elements.{All-head, All-tail}
use Rattle.c65_ctype.specs.Trees.{QTy, type_in}
use Rattle.c65_ctype.specs.Sizes.{size_of}
use Rattle.c65_csem.specs.declared.items.Class.{Class}
use Rattle.c65_csem.specs.Places.{is_small, is_automatic, is_fixed, is_fixed_object, is_register}
use Rattle.c65_csem.specs.Trees.{Stmt, ObjectTy, UnitTy, FuncTy}
use Rattle.c65_csem.specs.Typed.{IsSpot}
use Rattle.c65_csem.specs.Units.{IsParam, HasBody}
use Rattle.c65_meaning.specs.After.{is_among}
use Rattle.c65_meaning.specs.Shapes.{object_in, object_size, lives_in_frame}
use Rattle.c65_genframe.specs.Objects.{locals_of}
use Rattle.c65_genframe.specs.Sizes as frames
use Rattle.c65_genframe.specs.Sizes.{bank_bytes, bank_size}
use Rattle.c65_genframe.specs.Frames.{home_of, lies_above}
use Rattle.c65_agree_state.specs.World.{World, unit_in, Active}
use Rattle.c65_agree_homes.specs.Frames.{IsCallIn}
use Rattle.c65_agree_stmts.proofs.Blocks.{among_both}
use Rattle.c65_agree_homes.proofs.Among.{among_cases}
use Rattle.c65_agree_homes.proofs.Own.{has_body, object_same, size_same}
use Rattle.c65_agree_homes.proofs.Lying.{Homed, InBank, InParams, InBlocks, IsData, local_outside, local_lies}
use Rattle.c65_agree_structures.specs.Spills.{IsTaker}
use Rattle.c65_agree_structures.specs.Takers.{TakersAreHomed, ScopedTakersAreHomed}
use Rattle.c65_agree_structures.proofs.Sizes.{Small, small_type}

module _ (g : World) (names : List (List ℕ)) (a : Active) (f : FuncTy) (i : ℕ) (t : QTy) (h : IsCallIn g names a f) (among : is_among (locals_of f) i ≡ true) (spot : IsSpot (unit_in g) i t) (is : IsTrue (is_small (unit_in g).types (type_in t))) where
  small : Small (unit_in g).types (type_in t)
  small = small_type (unit_in g).types (type_in t) is

  there : object_in (unit_in g) i ≡ Some spot.object
  there = spot.there

  lives : lives_in_frame (object_in (unit_in g) i) ≡ true
  lives = ap lives_in_frame there ∙ ap is_automatic spot.class

  size : object_size (unit_in g).types (object_in (unit_in g) i) ≡ size_of (unit_in g).types (type_in t)
  size = ap (object_size (unit_in g).types) there ∙ ap (size_of (unit_in g).types) spot.same

  -- it has no byte of regbank
  no_bank : bank_bytes true (frames.object_in g.parts i) ≡ 0
  no_bank = ap (bank_bytes true) (sym (object_same g names a f h i) ∙ there) ∙ ap (λ (c : Class). if true && is_register c then bank_size (type_in spot.object.ty) else 0) spot.class

  taker : Homed g a f i ⊎ IsData g a i → IsTaker g a i
  taker (inl (InBank b e by)) = absurd (omega (arith, by.0, no_bank))
  taker (inl (InParams d e p low high)) = let outside = local_outside g names a f h i among in let clash : true ≡ false = sym p ∙ outside in absurd cc
  taker (inl (InBlocks d e mark low high)) =
      let bytes = size_same g names a f h i in
      let below : d < a.frame.soft = omega (arith, high, bytes, size, small.least) in
      let above : lies_above a.frame.soft (home_of a.frame i) ≡ false = ap (lies_above a.frame.soft) e ∙ lt-leb a.frame.soft d below in
      record { lives = lives; offset = d; home = e; low = ap (λ (b : Bool). a.frame.variadic && b) above ∙ and_right a.frame.variadic false refl }
  taker (inr data_there) =
      let no : is_fixed_object (object_in (unit_in g) i) ≡ false = ap is_fixed_object there ∙ ap is_fixed spot.class in
      let clash : true ≡ false = sym data_there.fixed ∙ no in
      absurd cc

pub takers_are_homed : TakersAreHomed
takers_are_homed g names a f i t h among spot is = taker g names a f i t h among spot is (local_lies g names a f h i among)

-- ---- those in scope

-- each parameter is one
param_at : (u : UnitTy) (ks : List ℕ) (i : ℕ) → All (IsParam u) ks → is_among ks i ≡ true → IsParam u i
param_at u [] i all among = absurd cc
param_at u (k ∷ ks) i all among = go (among_cases k ks i among) (λ h. param_at u ks i (All-tail (IsParam u) k ks all) h)
  where
    go : (k ≡ i) ⊎ (is_among ks i ≡ true) → (is_among ks i ≡ true → IsParam u i) → IsParam u i
    go (inl e) later = subst (IsParam u) e (All-head (IsParam u) k ks all)
    go (inr h) later = later h

-- which has a name, and so takes nothing that a call gives
no_spot : {A : Type 0} (u : UnitTy) (i : ℕ) (t : QTy) → IsParam u i → IsSpot u i t → A
no_spot u i t param spot =
    let both : Some param.object ≡ Some spot.object = sym param.framed.0 ∙ spot.there in
    let same : param.object ≡ spot.object = cc in
    let unnamed : param.object.name ≡ None = ap (λ (o : ObjectTy). o.name) same ∙ spot.unnamed in
    let clash : false ≡ true = ap is_some (sym unnamed) ∙ param.named in
    cc

no_param : {A : Type 0} (u : UnitTy) (f : FuncTy) (i : ℕ) (t : QTy) (body : Option Stmt) → HasBody u f body → is_among f.params i ≡ true → IsSpot u i t → A
no_param u f i t None none among spot = let clash : false ≡ true = ap (λ (ks : List ℕ). is_among ks i) (sym none) ∙ among in cc
no_param u f i t (Some body) well among spot = no_spot u i t (param_at u f.params i well.params among) spot

pub scoped_takers_are_homed : ScopedTakersAreHomed
scoped_takers_are_homed g names a f scope i t h within in_scope spot is =
    go (among_both f.params (locals_of f) i (within i (in_scope (ap lives_in_frame spot.there ∙ ap is_automatic spot.class))))
  where
    go : (is_among f.params i ≡ true) ⊎ (is_among (locals_of f) i ≡ true) → IsTaker g a i
    go (inl param) = no_param (unit_in g) f i t f.body (has_body g names a f h a.func f h.function) param spot
    go (inr local) = takers_are_homed g names a f i t h local spot is
