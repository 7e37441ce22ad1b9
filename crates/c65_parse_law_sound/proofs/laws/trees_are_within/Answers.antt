use Rattle.c65_parse_law_sound.proofs.Within.{exprs_are_within, specifiers_are_within, declarators_are_within, types_are_within}
use Rattle.c65_parse_law_sound.proofs.laws.trees_are_within.Goals as goal

pub returns-clause-expressions : goal.returns-clause-expressions
returns-clause-expressions c = exprs_are_within

pub returns-clause-specifiers : goal.returns-clause-specifiers
returns-clause-specifiers c = specifiers_are_within

pub returns-clause-declarators : goal.returns-clause-declarators
returns-clause-declarators c = declarators_are_within

pub returns-clause-types : goal.returns-clause-types
returns-clause-types c = types_are_within
