use Rattle.c65_elab_law.proofs.Answered.{if_gives}
use Rattle.c65_elab_law.proofs.TypingLaws.{specified_keeps}
use Rattle.c65_elab_law.proofs.calls.typed_specifiers.Goals as goal

pub returns : goal.returns
returns c = if_gives _ _ c.elab_specifiers.result _ c.elab_specifiers.ensures (λ x same. specified_keeps _ c.requires.ranged _ _ _ c.requires.scoped same)
