-- The lines of the generator are those of these laws.
use Rattle.std.proofs.Common.{◌≡◌, ◌+◌, List, ◌∷◌, ◌++◌, true, ap, ◌∙◌}
use Rattle.std.specs.Prelude.{◌&&◌, if◌then◌else◌}
use Rattle.c65_ctype.specs.Trees.{type_in}
use Rattle.c65_code.specs.declared.line.Line.{Line}
use Rattle.c65_code.specs.declared.line.Line.TheVariants.{Label}
use Rattle.c65_csem.specs.Trees.{node, convert, binary}
use Rattle.c65_gendirect.specs.Words.{first_byte_code}
use Rattle.c65_genexpr.specs.declared.wanted.Wanted.TheVariants.{Value}
use Rattle.c65_genexpr.specs.Types.{bare}
use Rattle.c65_genexpr.specs.Comparing.{low_code}
use Rattle.c65_genexpr.specs.Lows.{is_number, low_operand_or}
use Rattle.c65_genexpr.specs.Code.{node_code, low_value_code}
use Rattle.c65_agree_order.specs.Laws.{LowConversionLinesAre, LowOperatorLinesAre}

pub low_conversion_lines_are : LowConversionLinesAre
low_conversion_lines_are f pushed fresh q e none to from =
    ap (λ o. low_code o (if is_number (type_in q) && is_number (bare e) then inner else whole)) none
    ∙ ap (λ b. if b && is_number (bare e) then inner else whole) to
    ∙ ap (λ b. if true && b then inner else whole) from
  where
    inner : List Line
    inner = low_value_code f pushed fresh e

    whole : List Line
    whole = node_code f pushed fresh Value q (convert e)

pub low_operator_lines_are : LowOperatorLinesAre
low_operator_lines_are f pushed fresh q op x y d is =
    ap (λ o. low_operand_or o (λ z. Label fresh ∷ (low_value_code f pushed (fresh + 1) x ++ first_byte_code op z)) (node_code f pushed fresh Value q (binary op x y))) is
