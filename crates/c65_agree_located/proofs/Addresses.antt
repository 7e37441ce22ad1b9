-- The addresses that lines read where they lie.
use Rattle.std.proofs.Common.{◌≡◌, ℕ, List, Bool, true, false, Option, None, Some, refl, sym, subst, arith}
use Rattle.std.specs.Prelude.{◌==◌, slice_get, if◌then◌else◌}
use Rattle.c65_ints.specs.declared.types.IntType.{IntType}
use Rattle.c65_ctype.specs.Trees.{type_in}
use Rattle.c65_ctype.specs.Views.{types_of}
use Rattle.c65_csem.specs.declared.items.Parts.{Parts}
use Rattle.c65_csem.specs.Trees.{Typed, node, constant, null, literal, object, func, deref, member, load, address, decay, convert, unary, binary, both, either, choice, comma, assign, assign_op, assign_step, step, copy, call, pack, spill, rest, FuncTy}
use Rattle.c65_csem.specs.Typed.{IsTyped}
use Rattle.c65_csem_names.specs.Scopes.{IsScopedIn}
use Rattle.c65_code.specs.declared.line.Sym.{Sym}
use Rattle.c65_code.specs.Placement.{IsPlacement}
use Rattle.c65_genframe.specs.Symbols.{numbers_of, function_symbol}
use Rattle.c65_genload.specs.Conversions.{size_of}
use Rattle.c65_genload.specs.declared.places.Access.{Access}
use Rattle.c65_genload.specs.declared.places.Access.TheVariants.{Whole, Part}
use Rattle.c65_genload.specs.declared.places.Place.{Place}
use Rattle.c65_genload.specs.declared.places.Place.TheVariants.{Bank, Near, Data, Far}
use Rattle.c65_gendirect.specs.declared.direct.Direct.{Direct}
use Rattle.c65_gendirect.specs.declared.direct.Direct.TheVariants as directs
use Rattle.c65_gendirect.specs.Bytes.{converted}
use Rattle.c65_genexpr.specs.Types.{kind_of, bare, access_of}
use Rattle.c65_genexpr.specs.Operands.{residue_of}
use Rattle.c65_genexpr.specs.Places.{place_of, is_plain}
use Rattle.c65_genexpr.specs.Direct.{kept_at, address_at, address_of, takes_bytes, converted_if, direct_of}
use Rattle.c65_agree_state.specs.World.{World, unit_in, Active}
use Rattle.c65_agree_start.proofs.Given.{item_below}
use Rattle.c65_agree_direct.specs.Operands.{IsLocated}
use Rattle.c65_agree_direct.proofs.Trees.{Addressed, of_function, of_place, addressed}
use Rattle.c65_agree_homes.specs.Frames.{IsCallIn}
use Rattle.c65_agree_located.specs.Laws.{IsLow, AreOwn, AddressesAreLocated}
use Rattle.c65_agree_located.proofs.Symbols.{function_low}
use Rattle.c65_agree_located.proofs.Places.{IsLowPlace, own_parts, place_low}

-- ---- what is told of a place

kept_located : (g : World) (p : Place) (access : Access) (d : Direct) → kept_at p access ≡ Some d → IsLocated g d
kept_located g (Far at) access d e = cc
kept_located g (Bank b) (Whole kind) d e = let same : directs.Kept (Bank b) kind ≡ d = cc in subst (IsLocated g) same tt
kept_located g (Near at) (Whole kind) d e = let same : directs.Kept (Near at) kind ≡ d = cc in subst (IsLocated g) same tt
kept_located g (Data s at) (Whole kind) d e = let same : directs.Kept (Data s at) kind ≡ d = cc in subst (IsLocated g) same tt
kept_located g (Bank b) (Part field) d e = cc
kept_located g (Near at) (Part field) d e = cc
kept_located g (Data s at) (Part field) d e = cc

kept_if : (g : World) (plain : Bool) (p : Place) (access : Access) (d : Direct) → (if plain then kept_at p access else None) ≡ Some d → IsLocated g d
kept_if g true p access d e = kept_located g p access d e
kept_if g false p access d e = cc

low_located : (g : World) (s : Sym) (at : ℕ) → IsLow g s → IsLocated g (directs.Address s at)
low_located g s at low = omega (arith, low)

address_located : (g : World) (p : Place) (d : Direct) → IsLowPlace g p → address_at p ≡ Some d → IsLocated g d
address_located g (Data s at) d low e = let same : directs.Address s at ≡ d = cc in subst (IsLocated g) same (low_located g s at low)
address_located g (Bank b) d low e = cc
address_located g (Near at) d low e = cc
address_located g (Far at) d low e = cc

-- ---- conversions

same_located : (g : World) (s : Sym) (at : ℕ) (two : Bool) (d : Direct) → IsLocated g (directs.Address s at) → (if two then Some (directs.Address s at) else None) ≡ Some d → IsLocated g d
same_located g s at true d low e = let same : directs.Address s at ≡ d = cc in subst (IsLocated g) same low
same_located g s at false d low e = cc

converted_located : (g : World) (to : IntType) (from d : Direct) → IsLocated g from → converted to from ≡ Some d → IsLocated g d
converted_located g to (directs.Number n) d low e = cc
converted_located g to (directs.Address s at) d low e = same_located g s at (size_of to == 2) d low e
converted_located g to (directs.Kept p kind) d low e = subst (IsLocated g) (some_same e) tt
  where
    some_same : {x y : Direct} → Some x ≡ Some y → x ≡ y
    some_same e = cc

module _ (g : World) (names : List (List ℕ)) (a : Active) (f : FuncTy) (h : IsCallIn g names a f) (placed : IsPlacement g.code g.place) (variadic : Bool) (scope : List ℕ)
    (own : AreOwn f scope) (pushed : ℕ) where
  named_located : (i : ℕ) (callee : FuncTy) → slice_get (unit_in g).funcs i ≡ Some callee → IsLocated g (directs.Address (function_symbol (numbers_of a.frame.parts) i) 0)
  named_located i callee e =
      subst (λ (p : Parts). IsLocated g (directs.Address (function_symbol (numbers_of p) i) 0)) (sym (own_parts g names a f h placed variadic scope own pushed))
      (low_located g (function_symbol (numbers_of g.parts) i) 0 (function_low g names h.code placed h.program h.plain i (item_below (unit_in g).funcs i callee e)))

  taken_located : (e : Typed) (d : Direct) → IsTyped (unit_in g) e → IsScopedIn (unit_in g) variadic scope e → address_of a.frame pushed e ≡ Some d → IsLocated g d
  taken_located e d typed s is = go (addressed a.frame pushed d e is)
    where
      go : Addressed a.frame pushed e d → IsLocated g d
      go (of_function t i named same) =
          let there : IsTyped (unit_in g) (node t (func i)) = subst (IsTyped (unit_in g)) named typed in
          subst (IsLocated g) same (named_located i there.0 there.1)
      go (of_place plain there) = address_located g (place_of a.frame pushed e) d (place_low g names a f h placed variadic scope own pushed e typed s) there

  convert_located : (takes : Bool) (to : IntType) (o : Option Direct) (d : Direct) → ((x : Direct) → o ≡ Some x → IsLocated g x) → converted_if takes to o ≡ Some d → IsLocated g d
  convert_located true to (Some x) d part e = converted_located g to x d (part x refl) e
  convert_located true to None d part e = cc
  convert_located false to o d part e = cc

  pub located : (e : Typed) (d : Direct) → IsTyped (unit_in g) e → IsScopedIn (unit_in g) variadic scope e → direct_of a.frame pushed e ≡ Some d → IsLocated g d
  located (node t (constant z)) d typed s is = let same : directs.Number (residue_of z) ≡ d = cc in subst (IsLocated g) same tt
  located (node t null) d typed s is = let same : directs.Number 0 ≡ d = cc in subst (IsLocated g) same tt
  located (node t (load e)) d typed s is = kept_if g (is_plain e) (place_of a.frame pushed e) (access_of (types_of a.frame.parts.types) e) d is
  located (node t (address e)) d typed s is = taken_located e d typed.0 s is
  located (node t (decay e)) d typed s is = taken_located e d typed.0 s is
  located (node t (convert e)) d typed s is = convert_located (takes_bytes (type_in t) (bare e)) (kind_of (type_in t)) (direct_of a.frame pushed e) d (λ x k. located e x typed.0 s k) is
  located (node t (literal l)) d typed s is = cc
  located (node t (object i)) d typed s is = cc
  located (node t (func i)) d typed s is = cc
  located (node t (deref e)) d typed s is = cc
  located (node t (member e m)) d typed s is = cc
  located (node t (unary op e)) d typed s is = cc
  located (node t (binary op x y)) d typed s is = cc
  located (node t (both x y)) d typed s is = cc
  located (node t (either x y)) d typed s is = cc
  located (node t (choice x y z)) d typed s is = cc
  located (node t (comma x y)) d typed s is = cc
  located (node t (assign x y)) d typed s is = cc
  located (node t (assign_op op k x y)) d typed s is = cc
  located (node t (assign_step op x y)) d typed s is = cc
  located (node t (step how e)) d typed s is = cc
  located (node t (copy x y)) d typed s is = cc
  located (node t (call e es)) d typed s is = cc
  located (node t (pack e)) d typed s is = cc
  located (node t (spill i e)) d typed s is = cc
  located (node t rest) d typed s is = cc

pub addresses_are_located : AddressesAreLocated
addresses_are_located g names a f variadic scope e h placed own typed scoped pushed d is = located g names a f h placed variadic scope own pushed e d typed scoped is
