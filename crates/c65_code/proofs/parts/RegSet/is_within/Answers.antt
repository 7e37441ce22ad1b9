use Rattle.std.proofs.Common.{◌≡◌, true, ◌∙◌, sym, subst, ap}
use Rattle.c65_code.specs.declared.parts.RegSet.{RegSet}
use Rattle.c65_code.specs.Parts.{minus_of, no_parts}
use Rattle.c65_code.proofs.PartLaws.{within_iff, are_same, are_same-equal, are_same-itself}
use Rattle.c65_code.proofs.parts.RegSet.is_within.Goals as goal

pub returns : goal.returns
returns c =
    let both : are_same c.minus.result c.empty.result ≡ are_same (minus_of c.args.self c.args.other) no_parts = ap (λ (s : RegSet). are_same s c.empty.result) c.minus.ensures.set ∙ ap (λ (s : RegSet). are_same (minus_of c.args.self c.args.other) s) c.empty.ensures.set in
    let within = within_iff c.args.self c.args.other in (
      λ h. within.0 (are_same-equal _ _ (sym both ∙ (sym c.eq.ensures ∙ h))),
      λ h. c.eq.ensures ∙ (both ∙ subst (λ s. are_same s no_parts ≡ true) (sym (within.1 h)) (are_same-itself no_parts)),
    )
