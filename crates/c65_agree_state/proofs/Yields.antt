-- What trees give by their types.
use Rattle.std.proofs.Common.{◌≡◌, ℕ, zero, suc, Bool, true, false, refl, ap, ◌∙◌}
use Rattle.std.specs.Prelude.{◌&&◌, if◌then◌else◌}
use Rattle.c65_ctype.specs.Trees.{type_in}
use Rattle.c65_csem.specs.Trees.{Typed, node, UnitTy}
use Rattle.c65_csem.specs.Places.{is_place, is_registered, is_tag}
use Rattle.c65_meaning.specs.Store.{NoValue, Shape, Number, Field, Pointer, Area}
use Rattle.c65_meaning.specs.Shapes.{bare_type}
use Rattle.c65_agree_state.specs.Exprs.{Valued, Placed, Registered, leads_on, is_area, yield_of, IsAreaValue, MayFit}

-- a call may have given no value
pub nothing_fits : (size : ℕ) → IsAreaValue size NoValue
nothing_fits zero = refl
nothing_fits (suc size) = tt

pub nothing_may_fit : (f : Shape) → MayFit Valued f NoValue
nothing_may_fit (Number t) = tt
nothing_may_fit (Field t low width) = tt
nothing_may_fit (Pointer size) = tt
nothing_may_fit (Area size) = nothing_fits size

-- what is no structure or union is none that stands in memory
pub no_area : (e : Typed) → is_tag (bare_type e) ≡ false → is_area e ≡ false
no_area (node t e) h = go (leads_on e)
  where
    go : (b : Bool) → (b && is_tag (type_in t)) ≡ false
    go true = h
    go false = refl

-- an expression that is no place, and no structure or union, gives its value
pub value_yields : (u : UnitTy) (e : Typed) → is_place e ≡ false → is_tag (bare_type e) ≡ false → yield_of u e ≡ Valued
value_yields u e plain none =
    ap (λ b. if b then (if is_registered u e then Registered else Placed) else if is_area e then Placed else Valued) plain ∙ ap (λ b. if b then Placed else Valued) (no_area e none)
