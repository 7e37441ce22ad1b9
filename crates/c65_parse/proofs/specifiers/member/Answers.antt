use Rattle.std.proofs.Common.{◌≡◌, IfOk, List, sym, ap, ◌∙◌, subst}
use Rattle.c65_parse.specs.declared.frame.Sort.TheVariants as sorts
use Rattle.c65_parse.specs.Declarators.{declarator_step}
use Rattle.c65_parse.specs.Frames.{Frame, Next}
use Rattle.c65_parse.specs.Views.{next_of}
use Rattle.c65_parse.proofs.Stacks.{member_begins}
use Rattle.c65_parse.proofs.specifiers.member.Goals as goal

pub returns-in_ok-frames-in_default : goal.returns-in_ok-frames-in_default
returns-in_ok-frames-in_default c = subst (λ (next : Next). IfOk c.declarator.result (λ n. next_of n ≡ next))
    (ap (λ (fs : List Frame). declarator_step c.args.limit (sorts.Member c.args.part.specifiers.has_type) fs c.args.pos c.args.sign) c.in_ok-frames-in_default.ensures ∙ sym (member_begins _ _ _ _ _ c.in_default.not-Colon)) c.declarator.ensures
