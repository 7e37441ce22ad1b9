-- The lines of the generator are those of these laws.
use Rattle.std.proofs.Common.{◌≡◌, ℕ, zero, suc, ◌*◌, ◌+◌, ◌<◌, ◌≤◌, ◌⊎◌, inl, inr, Bool, true, false, Option, Some, None, refl, sym, ap, ◌∙◌, arith}
use Rattle.std.specs.Prelude.{nat_lt, if◌then◌else◌, unwrap_or, option_and_then}
use Rattle.std.proofs.lemmas.Bool.{ltb-true, ltb-false}
use Rattle.c65_ints.specs.declared.types.IntType.{IntType}
use Rattle.c65_ints.specs.declared.types.IntType.TheVariants as I
use Rattle.c65_ctype.specs.Trees.{Ty, void, int, pointer, array, tag, function, QTy, qual, type_in, LayoutTy, TypesTy}
use Rattle.c65_ctype.specs.Views.{types_of}
use Rattle.c65_ctype.specs.Sizes.{bytes_of, size_in, size_of, qualified_size_of}
use Rattle.c65_ctype.specs.Tables.{layout_at}
use Rattle.c65_genwide.specs.Wide.{width_of}
use Rattle.c65_genload.specs.Conversions.{waiting}
use Rattle.c65_genframe.specs.Sizes.{limited, elements, bytes_at, qualified_bytes_at}
use Rattle.c65_genexpr.specs.declared.destination.Destination.TheVariants.{Registers}
use Rattle.c65_genexpr.specs.declared.wanted.Wanted.TheVariants.{Value}
use Rattle.c65_genexpr.specs.Types.{bare, kind_in}
use Rattle.c65_genexpr.specs.Operands.{operands_of, computes}
use Rattle.c65_genexpr.specs.Operating.{operating_of, below_operand, operator_by}
use Rattle.c65_genexpr.specs.Uses.{uses, by_relation}
use Rattle.c65_genexpr.specs.Code.{expr_code, comparison_code}
use Rattle.c65_genexpr.specs.Wanted.{truth_by, aimed, inner, sense}
use Rattle.c65_agree_pointers.specs.Sums.{told}
use Rattle.c65_agree_pointers.specs.Laws.{OperatorLinesAre, ElementsAreTold}

pub operator_lines_are : OperatorLinesAre
operator_lines_are f pushed fresh q op x y plain =
    let operands = operands_of f (bare x) (bare y) in
    ap (λ o. by_relation o (operator_by Registers (operating_of f pushed op operands x y) op operands (kind_in y) fresh (expr_code f pushed (fresh + 1) Value x) (expr_code f (below_operand (operating_of f pushed op operands x y) pushed (waiting (width_of (computes operands)))) (fresh + 1 + uses None x) Value y))
    (λ z. truth_by Value fresh (comparison_code f pushed (inner Value fresh) (aimed Value fresh) (sense Value) op z x y))) plain

-- ---- sizes

-- where there is a number of bytes that can be told it is the size, and where there is none the size is 0, or too large
abbrev IsSize : Option ℕ → ℕ → Type 0
IsSize (Some n) size = (n ≡ size) × (size < 65536)
IsSize None size = (size ≡ 0) ⊎ (65536 ≤ size)

limited_is : (n size : ℕ) → n ≡ size → IsSize (limited n) size
limited_is n size is = by (nat_lt 65535 n) refl
  where
    by : (b : Bool) → nat_lt 65535 n ≡ b → IsSize (if b then None else Some n) size
    by true e = let more : 65535 < n = ltb-true 65535 n e in inr (omega (arith, more, is))
    by false e = let less : n ≤ 65535 = ltb-false 65535 n e in (is, omega (arith, less, is))

row_is : (o : Option ℕ) (size n : ℕ) → IsSize o size → IsSize (elements o n) (size * n)
row_is (Some b) size n h = limited_is (b * n) (size * n) (ap (λ k. k * n) h.0)
row_is None size n (inl zero_is) = let none : size * n ≡ 0 = ap (λ k. k * n) zero_is ∙ omega arith in inl none
row_is None size zero (inr large) = inl (omega arith)
row_is None size (suc n) (inr large) = let more : size * suc n ≡ size * n + size = omega arith in inr (omega (arith, more, large))

layout_is : (l : Option LayoutTy) → IsSize (option_and_then (λ x. limited x.size) l) (size_in l)
layout_is None = inl refl
layout_is (Some l) = limited_is l.size l.size refl

int_small : (k : IntType) → bytes_of k < 65536
int_small I.SChar = omega arith
int_small I.UChar = omega arith
int_small I.Short = omega arith
int_small I.UShort = omega arith
int_small I.Int = omega arith
int_small I.UInt = omega arith
int_small I.Long = omega arith
int_small I.ULong = omega arith

mutual
  type_is : (types : TypesTy) (t : Ty) → IsSize (bytes_at types t) (size_of types t)
  type_is types void = inl refl
  type_is types (int k) = (refl, int_small k)
  type_is types (pointer q) = (refl, omega arith)
  type_is types (array q None) = inl refl
  type_is types (array q (Some n)) = row_is (qualified_bytes_at types q) (qualified_size_of types q) n (qualified_is types q)
  type_is types (tag n) = layout_is (layout_at types n)
  type_is types (function f) = inl refl

  qualified_is : (types : TypesTy) (q : QTy) → IsSize (qualified_bytes_at types q) (qualified_size_of types q)
  qualified_is types (qual t c v) = type_is types t

told_by : (o : Option ℕ) (size : ℕ) → IsSize o size → unwrap_or o 0 ≡ told size
told_by o size h = by o (nat_lt size 65536) refl h
  where
    by : (o : Option ℕ) (b : Bool) → nat_lt size 65536 ≡ b → IsSize o size → unwrap_or o 0 ≡ (if b then size else 0)
    by (Some n) true e h = h.0
    by (Some n) false e h = absurd (omega (arith, h.1, ltb-false size 65536 e))
    by None true e (inl zero_is) = sym zero_is
    by None true e (inr large) = absurd (omega (arith, large, ltb-true size 65536 e))
    by None false e h = refl

pub elements_are_told : ElementsAreTold
elements_are_told f q = told_by (bytes_at (types_of f.parts.types) (type_in q)) (size_of (types_of f.parts.types) (type_in q)) (type_is (types_of f.parts.types) (type_in q))
