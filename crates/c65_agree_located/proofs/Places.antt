-- The places that lines know by a symbol.
use Rattle.std.proofs.Common.{◌≡◌, ℕ, ◌+◌, ◌⊎◌, inl, inr, List, Bool, true, false, Option, None, Some, refl, sym, ap, ◌∙◌, subst}
use Rattle.std.specs.Prelude.{◌==◌, nat_le, slice_get, if◌then◌else◌}
use Rattle.c65_ctype.specs.Views.{types_of}
use Rattle.c65_csem.specs.declared.items.Class.{Class}
use Rattle.c65_csem.specs.declared.items.Class.TheVariants.{External, Tentative, Declared, Static, Auto, Register, Fixed}
use Rattle.c65_csem.specs.declared.items.Parts.{Parts}
use Rattle.c65_csem.specs.Trees.{Typed, node, constant, null, literal, object, func, deref, member, load, address, decay, convert, unary, binary, both, either, choice, comma, assign, assign_op, assign_step, step, copy, call, pack, spill, rest, ObjectTy, FuncTy}
use Rattle.c65_csem.specs.Places.{is_automatic, is_fixed, is_fixed_object}
use Rattle.c65_csem.specs.Typed.{IsTyped}
use Rattle.c65_csem.specs.Units.{is_defined, IsDefined}
use Rattle.c65_csem_names.specs.Scopes.{IsInScope, IsScopedIn}
use Rattle.c65_meaning.specs.Shapes.{object_in, lives_in_frame}
use Rattle.c65_code.specs.Placement.{IsPlacement}
use Rattle.c65_genframe.specs.declared.home.Home.{Home}
use Rattle.c65_genframe.specs.declared.home.Home.TheVariants as homes
use Rattle.c65_genframe.specs.Frames.{home_of, is_raised}
use Rattle.c65_genframe.specs.Symbols.{numbers_of, literal_symbol}
use Rattle.c65_gendata.specs.Data.{is_placed}
use Rattle.c65_genload.specs.declared.places.Place.{Place}
use Rattle.c65_genload.specs.declared.places.Place.TheVariants.{Bank, Near, Data, Far}
use Rattle.c65_genexpr.specs.Types.{bare, offset_at}
use Rattle.c65_genexpr.specs.Operands.{operands_of, constant_in}
use Rattle.c65_genexpr.specs.Places.{more, near, soft_place, place_at, moved, added_bytes, sum_place, place_of, target_of}
use Rattle.c65_gen_law_calls.proofs.AgreementLaws.{parts_are}
use Rattle.c65_agree_state.specs.World.{World, unit_in, Active}
use Rattle.c65_agree_start.proofs.Given.{all_at, item_below}
use Rattle.c65_agree_homes.specs.Frames.{IsCallIn}
use Rattle.c65_agree_homes.proofs.Own.{framed}
use Rattle.c65_agree_homes.proofs.Lying.{Homed, InBank, InParams, InBlocks, IsData, own_lies}
use Rattle.c65_agree_located.specs.Laws.{IsLow, AreOwn, PlacesAreLow}
use Rattle.c65_agree_located.proofs.Symbols.{literal_low, object_low}

abbrev pub IsLowPlace : World → Place → Type 0
IsLowPlace g (Data s at) = IsLow g s
IsLowPlace g _ = Unit {0}

-- ---- parts of a place

near_or_far : (g : World) (b : Bool) (at : ℕ) → IsLowPlace g (if b then Near at else Far 0)
near_or_far g true at = tt
near_or_far g false at = tt

near_if : (g : World) (b : Bool) (at : ℕ) → IsLowPlace g (if b then near at else Far 0)
near_if g true at = near_or_far g (nat_le at 252) at
near_if g false at = tt

bank_or_far : (g : World) (b : Bool) (at : ℕ) → IsLowPlace g (if b then Bank at else Far 0)
bank_or_far g true at = tt
bank_or_far g false at = tt

moved_low : (g : World) (p : Place) (by : ℕ) → IsLowPlace g p → IsLowPlace g (moved p by)
moved_low g (Near at) by h = near_if g (nat_le by 252) (at + by)
moved_low g (Data s at) by h = h
moved_low g (Bank b) by h = bank_or_far g (by == 0) b
moved_low g (Far at) by h = tt

sum_low : (g : World) (p : Place) (by : Option ℕ) → IsLowPlace g p → IsLowPlace g (sum_place p by)
sum_low g p (Some by) h = moved_low g p by h
sum_low g p None h = tt

soft_low : (g : World) (raised : Bool) (at : ℕ) → IsLowPlace g (soft_place raised at)
soft_low g true at = tt
soft_low g false at = near_or_far g (nat_le at 252) at

module _ (g : World) (names : List (List ℕ)) (a : Active) (f : FuncTy) (h : IsCallIn g names a f) (placed : IsPlacement g.code g.place) (variadic : Bool) (scope : List ℕ)
    (own : AreOwn f scope) (pushed : ℕ) where
  pub own_parts : a.frame.parts ≡ g.parts
  own_parts = parts_are g.parts g.modes f a.frame (framed g names a f h)

  -- ---- objects

  module _ (i : ℕ) (o : ObjectTy) (e : object_in (unit_in g) i ≡ Some o) (inside : IsInScope (unit_in g) scope i) (none : home_of a.frame i ≡ None) where
    -- an automatic object without a home in the frame
    stays : is_automatic o.class ≡ true → is_fixed o.class ≡ true
    stays new = by (own_lies g names a f h i (own i (inside (ap lives_in_frame e ∙ new))))
      where
        by : Homed g a f i ⊎ IsData g a i → is_fixed o.class ≡ true
        by (inr d) = sym (ap is_fixed_object e) ∙ d.fixed
        by (inl (InBank b is bank)) = let clash : None ≡ Some (homes.Bank b) = sym none ∙ is in absurd (cc)
        by (inl (InParams d is p from to)) = let clash : None ≡ Some (homes.Soft d) = sym none ∙ is in absurd (cc)
        by (inl (InBlocks d is m from to)) = let clash : None ≡ Some (homes.Soft d) = sym none ∙ is in absurd (cc)

    lasts : is_placed o.class ≡ true
    lasts = go o.class refl
      where
        defined : is_defined o.class ≡ true
        defined = all_at IsDefined (unit_in g).objects i o h.program.objects e

        go : (c : Class) → o.class ≡ c → is_placed o.class ≡ true
        go External k = ap is_placed k
        go Tentative k = ap is_placed k
        go Static k = ap is_placed k
        go Fixed k = ap is_placed k
        go Declared k = let clash : false ≡ true = sym (ap is_defined k) ∙ defined in absurd (cc)
        go Auto k = let clash : false ≡ true = sym (ap is_fixed k) ∙ stays (ap is_automatic k) in absurd (cc)
        go Register k = let clash : false ≡ true = sym (ap is_fixed k) ∙ stays (ap is_automatic k) in absurd (cc)

  object_place_low : (i : ℕ) (o : ObjectTy) → object_in (unit_in g) i ≡ Some o → IsInScope (unit_in g) scope i → IsLowPlace g (place_at a.frame pushed i (home_of a.frame i))
  object_place_low i o e inside = go (home_of a.frame i) refl
    where
      go : (home : Option Home) → home_of a.frame i ≡ home → IsLowPlace g (place_at a.frame pushed i home)
      go None none = object_low g names h.code placed i o e (lasts i o e inside none)
      go (Some (homes.Bank b)) is = tt
      go (Some (homes.Soft d)) is = soft_low g (is_raised a.frame i) (more d pushed)

  literal_place_low : (l : ℕ) (text : List ℕ) → slice_get (unit_in g).literals l ≡ Some text → IsLow g (literal_symbol (numbers_of a.frame.parts) l)
  literal_place_low l text e = subst (λ (p : Parts). IsLow g (literal_symbol (numbers_of p) l)) (sym own_parts) (literal_low g names h.code placed l (item_below (unit_in g).literals l text e))

  -- ---- trees

  mutual
    pub place_low : (e : Typed) → IsTyped (unit_in g) e → IsScopedIn (unit_in g) variadic scope e → IsLowPlace g (place_of a.frame pushed e)
    place_low (node t (literal l)) typed s = literal_place_low l typed.0 typed.1
    place_low (node t (object i)) typed s = object_place_low i typed.0 typed.1 s
    place_low (node t (member e m)) typed s = moved_low g (place_of a.frame pushed e) (offset_at (types_of a.frame.parts.types) (bare e) m) (place_low e typed.0 s)
    place_low (node t (deref e)) typed s = target_low e typed.0 s
    place_low (node t (constant z)) typed s = tt
    place_low (node t null) typed s = tt
    place_low (node t (func i)) typed s = tt
    place_low (node t (load e)) typed s = tt
    place_low (node t (address e)) typed s = tt
    place_low (node t (decay e)) typed s = tt
    place_low (node t (convert e)) typed s = tt
    place_low (node t (unary op e)) typed s = tt
    place_low (node t (binary op x y)) typed s = tt
    place_low (node t (both x y)) typed s = tt
    place_low (node t (either x y)) typed s = tt
    place_low (node t (choice x y z)) typed s = tt
    place_low (node t (comma x y)) typed s = tt
    place_low (node t (assign x y)) typed s = tt
    place_low (node t (assign_op op k x y)) typed s = tt
    place_low (node t (assign_step op x y)) typed s = tt
    place_low (node t (step how e)) typed s = tt
    place_low (node t (copy x y)) typed s = tt
    place_low (node t (call e es)) typed s = tt
    place_low (node t (pack e)) typed s = tt
    place_low (node t (spill i e)) typed s = tt
    place_low (node t rest) typed s = tt

    target_low : (e : Typed) → IsTyped (unit_in g) e → IsScopedIn (unit_in g) variadic scope e → IsLowPlace g (target_of a.frame pushed e)
    target_low (node t (binary op x y)) typed s = sum_low g (target_of a.frame pushed x) (added_bytes op (operands_of a.frame (bare x) (bare y)) (constant_in y)) (target_low x typed.0 s.0)
    target_low (node t (address e)) typed s = place_low e typed.0 s
    target_low (node t (decay e)) typed s = place_low e typed.0 s
    target_low (node t (literal l)) typed s = tt
    target_low (node t (object i)) typed s = tt
    target_low (node t (member e m)) typed s = tt
    target_low (node t (deref e)) typed s = tt
    target_low (node t (constant z)) typed s = tt
    target_low (node t null) typed s = tt
    target_low (node t (func i)) typed s = tt
    target_low (node t (load e)) typed s = tt
    target_low (node t (convert e)) typed s = tt
    target_low (node t (unary op e)) typed s = tt
    target_low (node t (both x y)) typed s = tt
    target_low (node t (either x y)) typed s = tt
    target_low (node t (choice x y z)) typed s = tt
    target_low (node t (comma x y)) typed s = tt
    target_low (node t (assign x y)) typed s = tt
    target_low (node t (assign_op op k x y)) typed s = tt
    target_low (node t (assign_step op x y)) typed s = tt
    target_low (node t (step how e)) typed s = tt
    target_low (node t (copy x y)) typed s = tt
    target_low (node t (call e es)) typed s = tt
    target_low (node t (pack e)) typed s = tt
    target_low (node t (spill i e)) typed s = tt
    target_low (node t rest) typed s = tt

pub places_are_low : PlacesAreLow
places_are_low g names a f variadic scope e pushed s at h placed own typed scoped is = subst (IsLowPlace g) is (place_low g names a f h placed variadic scope own pushed e typed scoped)
