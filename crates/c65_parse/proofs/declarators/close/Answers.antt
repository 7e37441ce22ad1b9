use Rattle.std.proofs.Common.{◌≡◌, IfOk, List, sym, subst}
use Rattle.c65_tree.specs.View.{declarator_of}
use Rattle.c65_parse.specs.Declarators.{close_declarator}
use Rattle.c65_parse.specs.Frames.{Frame}
use Rattle.c65_parse.specs.Views.{next_of}
use Rattle.c65_parse.proofs.Stacks.{innermost_is}
use Rattle.c65_parse.proofs.declarators.close.Goals as goal

pub returns-in-Some-Member : goal.returns-in-Some-Member
unfolding close_declarator
returns-in-Some-Member c = subst (λ (fs : List Frame). IfOk c.after_member_declarator.result (λ n. next_of n ≡ close_declarator (declarator_of c.args.d.declarator) fs c.args.sign))
    (sym (innermost_is _ _ _ _ c.in-Some-Member.ensures.items c.in-Some-Member.field-0-is)) c.after_member_declarator.ensures
