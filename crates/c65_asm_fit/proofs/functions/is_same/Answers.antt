use Rattle.std.proofs.Common.{◌≡◌, true, ◌∙◌, sym, subst}
use Rattle.c65_code.specs.declared.parts.RegSet.{RegSet}
use Rattle.c65_code.proofs.PartLaws.{are_same, are_same-equal, are_same-itself}
use Rattle.c65_asm_fit.proofs.functions.is_same.Goals as goal

pub returns : goal.returns
returns c = (
  λ h. are_same-equal c.args.set c.args.other (sym c.eq.ensures ∙ h),
  λ e. c.eq.ensures ∙ subst (λ (s : RegSet). are_same c.args.set s ≡ true) e (are_same-itself c.args.set),
)
