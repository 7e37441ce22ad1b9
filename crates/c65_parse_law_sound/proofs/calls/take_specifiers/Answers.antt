use Rattle.c65_parse_law_sound.proofs.Answered.{if_gives}
use Rattle.c65_parse_law_sound.proofs.Derivations.{specifiers_are_derived}
use Rattle.c65_parse_law_sound.proofs.calls.take_specifiers.Goals as goal

pub returns : goal.returns
returns c = if_gives _ _ c.parse_specifiers.result _ c.parse_specifiers.ensures (λ q same. specifiers_are_derived 256 _ _ _ _ _ _ same)
