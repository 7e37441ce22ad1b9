use Rattle.c65_ctype.proofs.ViewLaws.{raised_next, raised_whole}
use Rattle.c65_ctype.proofs.raise.+raise.Goals as goal

pub raised_function-loop-ty-preserved : goal.raised_function-loop-ty-preserved
raised_function-loop-ty-preserved t c = rw c.in_ok-push-in-Some.ensures.items (raised_next c.args.by _ _ c.loop-ty.ty-index c.in_ok-copy-in-Some.copy c.ty-item.result c.loop-ty-test.true c.ty-item.is c.in_ok-copy-in-Some.ensures c.loop-ty.invariant)

pub raised_function-returns-after-loop-ty : goal.raised_function-returns-after-loop-ty
raised_function-returns-after-loop-ty t c =
    raised_whole c.args.by c.args.function.now _ c.in_ok-given.given c.loop-ty.copies c.in-Some.types _ c.loop-ty.ty-index c.new-in-Some.ensures c.in_ok-given.ensures c.in-Some.is c.deref-ty-items.ensures.value c.loop-ty-test.false c.loop-ty.invariant
