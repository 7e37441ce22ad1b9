-- The lines of the generator are those of these laws.
use Rattle.std.proofs.Common.{◌≡◌, ◌+◌, List, ◌++◌, None, true, refl, ap, ◌∙◌}
use Rattle.c65_base.specs.declared.operators.UnaryOp.TheVariants as unaries
use Rattle.c65_ints.specs.declared.types.IntType.{IntType}
use Rattle.c65_ctype.specs.Trees.{Ty, type_in, void, int, pointer, array, tag, function}
use Rattle.c65_csem.specs.Places.{is_scalar}
use Rattle.c65_code.specs.declared.line.Line.{Line}
use Rattle.c65_genwide.specs.Wide.{width_of}
use Rattle.c65_genload.specs.Conversions.{convert_code, waiting}
use Rattle.c65_genexpr.specs.declared.destination.Destination.TheVariants.{Registers}
use Rattle.c65_genexpr.specs.declared.operands.Operands.{Operands}
use Rattle.c65_genexpr.specs.declared.wanted.Wanted.TheVariants.{Value}
use Rattle.c65_genexpr.specs.Types.{kind_of, kind_in, bare}
use Rattle.c65_genexpr.specs.Operands.{operands_of, computes, conversion_code}
use Rattle.c65_genexpr.specs.Operating.{operating_of, below_operand, operator_by}
use Rattle.c65_genexpr.specs.Uses.{uses, by_relation}
use Rattle.c65_genexpr.specs.Code.{expr_code, comparison_code}
use Rattle.c65_genexpr.specs.Wanted.{truth_by, aimed, inner, sense}
use Rattle.c65_agree_operate.specs.Laws.{NumberLinesAre, OppositeLinesAre, NotLinesAre, ConversionLinesAre}

pub number_lines_are : NumberLinesAre
number_lines_are f pushed fresh q op x y t r plain left right =
    ap (λ o. by_relation o (lines (operands_of f (bare x) (bare y)) (kind_in y)) (λ z. truth_by Value fresh (comparison_code f pushed (inner Value fresh) (aimed Value fresh) (sense Value) op z x y))) plain
    ∙ ap (λ a. lines (operands_of f a (bare y)) (kind_in y)) left
    ∙ ap (λ b. lines (operands_of f (int t) b) (kind_of b)) right
  where
    lines : Operands → IntType → List Line
    lines o k = operator_by Registers (operating_of f pushed op o x y) op o k fresh (expr_code f pushed (fresh + 1) Value x) (expr_code f (below_operand (operating_of f pushed op o x y) pushed (waiting (width_of (computes o)))) (fresh + 1 + uses None x) Value y)

pub opposite_lines_are : OppositeLinesAre
opposite_lines_are f pushed fresh q unaries.Neg e o = refl
opposite_lines_are f pushed fresh q unaries.BitNot e o = refl
opposite_lines_are f pushed fresh q _ e o = absurd o

pub not_lines_are : NotLinesAre
not_lines_are f pushed fresh to s q e = (refl, refl)

scalar_code : (to : Ty) (from : IntType) → is_scalar to ≡ true → conversion_code to from ≡ convert_code from (kind_of to)
scalar_code void from h = absurd (cc)
scalar_code (int k) from h = refl
scalar_code (pointer q) from h = refl
scalar_code (array q n) from h = refl
scalar_code (tag n) from h = refl
scalar_code (function f) from h = refl

pub conversion_lines_are : ConversionLinesAre
conversion_lines_are f pushed fresh q e = (
  λ h. ap (λ ls. expr_code f pushed fresh Value e ++ ls) (scalar_code (type_in q) (kind_in e) h),
  λ h. ap (λ to. expr_code f pushed fresh Value e ++ conversion_code to (kind_in e)) h,
)
