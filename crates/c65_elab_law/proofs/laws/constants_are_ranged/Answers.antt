use Rattle.c65_elab_law.proofs.RangeLaws.{expr_ranged, type_ranged, specifiers_ranged, declarator_ranged}
use Rattle.c65_elab_law.proofs.laws.constants_are_ranged.Goals as goal

pub returns : goal.returns
returns c = record {
  expressions = expr_ranged;
  type_names = type_ranged;
  specifiers = specifiers_ranged;
  declarators = declarator_ranged;
}
