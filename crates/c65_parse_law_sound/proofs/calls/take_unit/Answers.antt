use Rattle.std.proofs.Common.{arith}
use Rattle.c65_parse_law_sound.proofs.Answered.{if_gives}
use Rattle.c65_parse_law_sound.proofs.Small.{units_are_units}
use Rattle.c65_parse_law_sound.proofs.calls.take_unit.Goals as goal

pub returns : goal.returns
returns c = if_gives _ _ c.parse_unit.result _ c.parse_unit.ensures (λ u same. units_are_units 256 (omega arith) _ _ c.requires same)
