use Rattle.std.proofs.Common.{false}
use Rattle.c65_parse.specs.declared.frame.Sort.TheVariants.{Named}
use Rattle.c65_parse_law_sound.proofs.Answered.{if_gives}
use Rattle.c65_parse_law_sound.proofs.Derivations.{declarators_are_derived}
use Rattle.c65_parse_law_sound.proofs.calls.take_untyped_declarator.Goals as goal

pub returns : goal.returns
returns c = if_gives _ _ c.parse_untyped_declarator.result _ c.parse_untyped_declarator.ensures (λ d same. declarators_are_derived 256 (Named false) _ _ _ _ _ _ same)
