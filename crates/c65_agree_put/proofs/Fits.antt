-- Values of numbers and pointers, and what an expression of such a type may give.
use Rattle.std.proofs.Common.{◌≡◌, ◌⊎◌, inl, inr, refl}
use Rattle.c65_meaning.specs.Store.{Value, Whole, Null, Place, Opaque, Cells, NoValue, Shape, Number, Field, Pointer, Area}
use Rattle.c65_meaning.specs.Fits.{Fits}
use Rattle.c65_agree_state.specs.Exprs.{Valued, MayFit}
use Rattle.c65_agree_put.specs.Laws.{IsScalar}

pub may_fit : (f : Shape) (v : Value) → IsScalar f → Fits f v → MayFit Valued f v
may_fit (Number t) (Whole z) s h = h
may_fit (Number t) Opaque s h = h
may_fit (Number t) Null s h = absurd h
may_fit (Number t) (Place b o) s h = absurd h
may_fit (Number t) (Cells xs) s h = absurd h
may_fit (Number t) NoValue s h = absurd h
may_fit (Pointer size) (Whole z) s h = absurd h
may_fit (Pointer size) Opaque s h = h
may_fit (Pointer size) Null s h = h
may_fit (Pointer size) (Place b o) s h = h
may_fit (Pointer size) (Cells xs) s h = absurd h
may_fit (Pointer size) NoValue s h = absurd h
may_fit (Field t low width) v s h = absurd s
may_fit (Area size) v s h = absurd s

-- a call may have given no value
pub fits_or_none : (f : Shape) (v : Value) → IsScalar f → MayFit Valued f v → Fits f v ⊎ (v ≡ NoValue)
fits_or_none f NoValue s h = inr refl
fits_or_none (Number t) (Whole z) s h = inl h
fits_or_none (Number t) Opaque s h = inl h
fits_or_none (Number t) Null s h = absurd h
fits_or_none (Number t) (Place b o) s h = absurd h
fits_or_none (Number t) (Cells xs) s h = absurd h
fits_or_none (Pointer size) (Whole z) s h = absurd h
fits_or_none (Pointer size) Opaque s h = inl h
fits_or_none (Pointer size) Null s h = inl h
fits_or_none (Pointer size) (Place b o) s h = inl h
fits_or_none (Pointer size) (Cells xs) s h = absurd h
fits_or_none (Field t low width) v s h = absurd s
fits_or_none (Area size) v s h = absurd s
