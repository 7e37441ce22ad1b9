use Rattle.c65_parse_law_trees.proofs.Top.{exprs_are_one, specifiers_are_one, declarators_are_one, types_are_one}
use Rattle.c65_parse_law_trees.proofs.laws.trees_are_one.Goals as goal

pub returns : goal.returns
returns c = record { expressions = exprs_are_one; specifiers = specifiers_are_one; declarators = declarators_are_one; types = types_are_one }
