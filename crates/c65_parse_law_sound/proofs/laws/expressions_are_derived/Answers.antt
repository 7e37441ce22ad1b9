use Rattle.c65_parse_law_sound.proofs.Derivations.{exprs_are_derived}
use Rattle.c65_parse_law_sound.proofs.laws.expressions_are_derived.Goals as goal

pub returns : goal.returns
returns c = exprs_are_derived
