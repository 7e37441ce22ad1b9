-- The lines of the generator are those of these laws.
use Rattle.std.proofs.Common.{◌≡◌, ◌+◌, ◌||◌, None, ap, ◌∙◌}
use Rattle.c65_csem.specs.Trees.{node, constant}
use Rattle.c65_genwide.specs.Wide.{width_of}
use Rattle.c65_genload.specs.Conversions.{waiting}
use Rattle.c65_genexpr.specs.declared.destination.Destination.TheVariants.{Registers}
use Rattle.c65_genexpr.specs.declared.operands.Operands.TheVariants.{Numbers}
use Rattle.c65_genexpr.specs.declared.operating.Operating.{Operating}
use Rattle.c65_genexpr.specs.declared.operating.Operating.TheVariants.{Left}
use Rattle.c65_genexpr.specs.declared.wanted.Wanted.TheVariants.{Value}
use Rattle.c65_genexpr.specs.Direct.{direct_of, is_fixed, is_pure}
use Rattle.c65_genexpr.specs.Operating.{direct_right, direct_left, by_left, by_right, is_light, held_form, held_if, or_held, operating_of, below_operand, operator_by}
use Rattle.c65_genexpr.specs.Uses.{uses}
use Rattle.c65_genexpr.specs.Code.{expr_code}
use Rattle.c65_agree_operate.proofs.Lines.{number_lines_are}
use Rattle.c65_agree_quick.specs.Laws.{ConstantLinesAre}

pub constant_lines_are : ConstantLinesAre
constant_lines_are f pushed fresh q y op x z t r form plain left right is =
    let c = node y (constant z) in
    let how : operating_of f pushed op (Numbers t) x c ≡ Left form =
    ap (λ o. or_held (by_right o (by_right (direct_right op (Numbers t) (direct_of f pushed c)) (by_left (is_fixed (direct_of f pushed x) || is_pure c) (direct_left op (Numbers t) (direct_of f pushed x))))) (held_if (is_light f pushed c) (held_form op (Numbers t)))) is in
    number_lines_are f pushed fresh q op x c t r plain left right
    ∙ ap (λ (o : Operating). operator_by Registers o op (Numbers t) r fresh (expr_code f pushed (fresh + 1) Value x) (expr_code f (below_operand o pushed (waiting (width_of t))) (fresh + 1 + uses None x) Value c)) how
