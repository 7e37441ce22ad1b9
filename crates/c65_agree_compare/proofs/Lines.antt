-- The lines of the generator are those of these laws.
use Rattle.std.proofs.Common.{◌+◌, ◌++◌, false, refl, ap}
use Rattle.c65_gendirect.specs.Tests.{truth_code}
use Rattle.c65_genexpr.specs.declared.wanted.Wanted.TheVariants.{Value, Test}
use Rattle.c65_genexpr.specs.Uses.{by_relation}
use Rattle.c65_genexpr.specs.Wanted.{wanted}
use Rattle.c65_genexpr.specs.Code.{width_in, operator_code, comparison_code}
use Rattle.c65_genexpr.specs.declared.destination.Destination.TheVariants.{Registers}
use Rattle.c65_agree_compare.specs.Laws.{JointLinesAre, ChoiceLinesAre, CommaLinesAre, ComparisonLinesAre}

pub joint_lines_are : JointLinesAre
joint_lines_are f pushed fresh to s q x y = (refl, refl, refl, refl)

pub choice_lines_are : ChoiceLinesAre
choice_lines_are f pushed fresh to s q x y z = (refl, refl)

pub comma_lines_are : CommaLinesAre
comma_lines_are f pushed fresh Value q x y = refl
comma_lines_are f pushed fresh (Test to s) q x y = refl

pub comparison_lines_are : ComparisonLinesAre
comparison_lines_are f pushed fresh to s q op r x y is = (
  ap (λ o. by_relation o (wanted (Test to s) (width_in q) (operator_code f pushed fresh Registers op x y)) (λ z. comparison_code f pushed (fresh + 0) to s op z x y)) is,
  ap (λ o. by_relation o (wanted Value (width_in q) (operator_code f pushed fresh Registers op x y)) (λ z. comparison_code f pushed (fresh + 2) fresh false op z x y ++ truth_code fresh)) is,
)
