-- The bytes of a number or a pointer in the primary register.
use Rattle.std.proofs.Common.{◌≡◌, ◌≤◌, ◌⊎◌, inl, inr, refl, sym, subst, arith}
use Rattle.std.specs.Prelude.{bit_and}
use Rattle.std.proofs.lemmas.Nat.{and_le_r}
use Rattle.c65_ints.specs.declared.types.IntType.{IntType}
use Rattle.c65_ints.specs.declared.types.IntType.TheVariants as I
use Rattle.c65_ctype.specs.Sizes.{bytes_of}
use Rattle.c65_ctype.specs.Trees.{Ty, void, int, pointer, array, tag, function, TypesTy, type_in}
use Rattle.c65_csem.specs.Trees.{Typed, node, pack}
use Rattle.c65_meaning.specs.Shapes.{bare_type, shape_of}
use Rattle.c65_meaning.specs.Store.{Value, NoValue, Shape, Number, Field, Pointer, Area, size_in}
use Rattle.c65_meaning.specs.Fits.{Fits}
use Rattle.c65_meaning.specs.Items.{plan}
use Rattle.c65_code.specs.LineState.{State, IsBytes, eax_of}
use Rattle.c65_genframe.specs.Frames.{Framed}
use Rattle.c65_genload.specs.Conversions.{size_of}
use Rattle.c65_genexpr.specs.Types.{kind_of}
use Rattle.c65_genexpr.specs.Arguments.{passed_size}
use Rattle.c65_genexpr.specs.declared.wanted.Wanted.TheVariants as wanted
use Rattle.c65_genexpr.specs.Code.{expr_code}
use Rattle.c65_csem_need.specs.Needs.{need}
use Rattle.c65_agree_store.specs.Laws.{byte_of}
use Rattle.c65_agree_store.specs.Stands.{Placing}
use Rattle.c65_agree_state.specs.World.{unit_in}
use Rattle.c65_agree_state.specs.Exprs.{Yield, Valued, MayFit, ResultIs, Does, shape_in, width_in}
use Rattle.c65_agree_put.specs.Laws.{IsScalar}
use Rattle.c65_agree_put.proofs.Values.{values_are_laid}
use Rattle.c65_agree_put.proofs.Fits.{fits_or_none}
use Rattle.c65_agree_enter.specs.Params.{no_cells}
use Rattle.c65_agree_argument.specs.Arguments.{AreHeld}
use Rattle.c65_agree_argument.specs.Laws.{IsPacked, ScalarsArePassed}

held_by : (w : Placing) (f : Shape) (v : Value) (t : State) → IsScalar f → IsBytes t → Fits f v → ResultIs Valued w (width_in f) v t → AreHeld w t (size_in f) v
held_by w (Number kind) v t s b fits is i lt = values_are_laid w (Number kind) v t no_cells 0 i s b fits is lt
held_by w (Pointer size) v t s b fits is i lt = values_are_laid w (Pointer size) v t no_cells 0 i s b fits is lt
held_by w (Field kind low width) v t s b fits is i lt = absurd s
held_by w (Area size) v t s b fits is i lt = absurd s

-- a value that is missing has no bytes
pub scalars_are_held : (w : Placing) (f : Shape) (v : Value) (t : State) → IsScalar f → IsBytes t → MayFit Valued f v → ResultIs Valued w (width_in f) v t → AreHeld w t (size_in f) v
scalars_are_held w f v t s b fits is = go (fits_or_none f v s fits)
  where
    go : Fits f v ⊎ (v ≡ NoValue) → AreHeld w t (size_in f) v
    go (inl h) = held_by w f v t s b h is
    go (inr e) = subst (AreHeld w t (size_in f)) (sym e) (λ i lt. let h : bit_and (byte_of i (eax_of t)) 0 ≤ 0 = and_le_r (byte_of i (eax_of t)) 0 in omega arith)

-- ---- the bytes in which it is passed

kind_size : (kind : IntType) → size_of kind ≡ bytes_of kind
kind_size I.SChar = refl
kind_size I.UChar = refl
kind_size I.Short = refl
kind_size I.UShort = refl
kind_size I.Int = refl
kind_size I.UInt = refl
kind_size I.Long = refl
kind_size I.ULong = refl

type_size : (types : TypesTy) (t : Ty) → IsScalar (shape_of types t) → size_of (kind_of t) ≡ size_in (shape_of types t)
type_size types void s = absurd s
type_size types (int kind) s = kind_size kind
type_size types (pointer q) s = refl
type_size types (array q n) s = absurd s
type_size types (tag n) s = absurd s
type_size types (function f) s = absurd s

passed_in : (f : Framed) (types : TypesTy) (e : Typed) → (IsPacked e → ⊥) → IsScalar (shape_of types (bare_type e)) → passed_size f e ≡ size_in (shape_of types (bare_type e))
passed_in f types (node t (pack e)) whole s = absurd (whole tt)
passed_in f types (node t _) whole s = type_size types (type_in t) s

-- ---- the argument

pub scalars_are_passed : ScalarsArePassed
scalars_are_passed g a e valued scalar whole does pushed fresh n w p k vs c q b t seen has r turned rest =
    let same : passed_size a.frame e ≡ size_in (shape_in g a e) = passed_in a.frame (unit_in g).types e whole scalar in
    let valued_does : Does g a Valued (shape_in g a e) (plan (unit_in g) e) (need e) pushed (expr_code a.frame pushed fresh wanted.Value e) = subst (λ (y : Yield). Does g a y (shape_in g a e) (plan (unit_in g) e) (need e) pushed (expr_code a.frame pushed fresh wanted.Value e)) valued (does pushed fresh) in
    valued_does n w p k vs c q b t seen has r turned (λ j v c2 q2 b2 u later lt done turned2.
    rest j v c2 q2 b2 u later lt done.kept
    (subst (λ m. AreHeld q2 u m v) (sym same) (scalars_are_held q2 (shape_in g a e) v u scalar done.kept.joins.bytes done.fits done.result)) turned2)
