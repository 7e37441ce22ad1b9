use Rattle.c65_parse_law_sound.proofs.Units.{units_are_derived}
use Rattle.c65_parse_law_sound.proofs.Small.{units_are_units}
use Rattle.c65_parse_law_sound.proofs.laws.units_are_derived.Goals as goal

pub returns-clause-derived : goal.returns-clause-derived
returns-clause-derived c = units_are_derived

pub returns-clause-within : goal.returns-clause-within
returns-clause-within c = units_are_units
