use Rattle.c65_parse_law_sound.proofs.Answered.{if_gives}
use Rattle.c65_parse_law_sound.proofs.Derivations.{types_are_derived}
use Rattle.c65_parse_law_sound.proofs.calls.take_type_name.Goals as goal

pub returns : goal.returns
returns c = if_gives _ _ c.parse_type_name.result _ c.parse_type_name.ensures (λ t same. types_are_derived 256 _ _ _ _ _ _ same)
