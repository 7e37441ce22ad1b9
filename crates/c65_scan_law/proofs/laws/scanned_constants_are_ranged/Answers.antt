use Rattle.c65_elab_law.proofs.RangeLaws.{expr_ranged, type_ranged, specifiers_ranged, declarator_ranged}
use Rattle.c65_scan_law.proofs.TokenLaws.{part_ranged}
use Rattle.c65_scan_law.proofs.laws.scanned_constants_are_ranged.Goals as goal

pub returns : goal.returns
returns c = record {
  expressions = λ names ts xs part sc e. expr_ranged sc e xs (part_ranged names ts xs part);
  type_names = λ names ts xs part sc p m. type_ranged sc p m xs (part_ranged names ts xs part);
  specifiers = λ names ts xs part sc storage q. specifiers_ranged sc storage q xs (part_ranged names ts xs part);
  declarators = λ names ts xs part sort sc p d. declarator_ranged sort sc p d xs (part_ranged names ts xs part);
}
