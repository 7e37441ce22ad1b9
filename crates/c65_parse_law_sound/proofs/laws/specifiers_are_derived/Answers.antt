use Rattle.c65_parse_law_sound.proofs.Derivations.{specifiers_are_derived}
use Rattle.c65_parse_law_sound.proofs.laws.specifiers_are_derived.Goals as goal

pub returns : goal.returns
returns c = specifiers_are_derived
