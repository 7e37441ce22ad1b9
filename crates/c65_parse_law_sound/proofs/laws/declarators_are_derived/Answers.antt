use Rattle.c65_parse_law_sound.proofs.Derivations.{declarators_are_derived}
use Rattle.c65_parse_law_sound.proofs.laws.declarators_are_derived.Goals as goal

pub returns : goal.returns
returns c = declarators_are_derived
