use Rattle.c65_parse_law_sound.proofs.Derivations.{types_are_derived}
use Rattle.c65_parse_law_sound.proofs.laws.types_are_derived.Goals as goal

pub returns : goal.returns
returns c = types_are_derived
