use Rattle.std.proofs.Common.{◌≡◌, IfOk, List, sym, subst}
use Rattle.c65_tree.specs.View.{expr_of}
use Rattle.c65_parse.specs.Expressions
use Rattle.c65_parse.specs.Expressions.{close, close_member, close_enumerator}
use Rattle.c65_parse_trees.specs.Listings.{MembersPart, EnumPart}
use Rattle.c65_parse.specs.Frames.{Frame}
use Rattle.c65_parse.specs.Views.{next_of, stack_of}
use Rattle.c65_parse.proofs.Stacks.{innermost_is}
use Rattle.c65_parse.proofs.operands.close.Goals as goal

pub returns-in_ok-part-in-Some-Width : goal.returns-in_ok-part-in-Some-Width
unfolding close
returns-in_ok-part-in-Some-Width c = subst (λ (fs : List Frame). IfOk c.after_member.result (λ n. next_of n ≡ close (expr_of c.args.e.expr) fs c.args.sign))
    (sym (innermost_is _ _ _ _ c.in-Some-Width.ensures.items c.in-Some-Width.field-0-is))
    (subst (λ (part : MembersPart). IfOk c.after_member.result (λ n. next_of n ≡ close_member part (stack_of c.pop-innermost.new.self.items) c.args.sign)) c.in_ok-part-in-Some-Width.ensures c.after_member.ensures)

pub returns-in_ok-part-in-Some-Value : goal.returns-in_ok-part-in-Some-Value
unfolding close
returns-in_ok-part-in-Some-Value c = subst (λ (fs : List Frame). IfOk c.after_enumerator.result (λ n. next_of n ≡ close (expr_of c.args.e.expr) fs c.args.sign))
    (sym (innermost_is _ _ _ _ c.in-Some-Value.ensures.items c.in-Some-Value.field-0-is))
    (subst (λ (part : EnumPart). IfOk c.after_enumerator.result (λ n. next_of n ≡ close_enumerator part c.in-Some-Value.name (stack_of c.pop-innermost.new.self.items) c.args.sign)) c.in_ok-part-in-Some-Value.ensures c.after_enumerator.ensures)
