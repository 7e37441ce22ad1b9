use Rattle.std.proofs.Common.{◌∙◌, sym}
use Rattle.c65_code.proofs.PartLaws.{are_same-equal}
use Rattle.c65_asm.proofs.alike.are_one_set.Goals as goal

pub returns : goal.returns
returns c = λ h. are_same-equal _ _ (sym c.eq.ensures ∙ h)
