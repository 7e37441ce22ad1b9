use Rattle.c65_ctype.proofs.ViewLaws.{copied_next, copied_whole}
use Rattle.c65_ctype.proofs.copy.+copy.Goals as goal

pub copied_fn-loop-ty-preserved : goal.copied_fn-loop-ty-preserved
copied_fn-loop-ty-preserved t c = rw c.in_ok-push-in-Some.ensures.items (copied_next _ _ c.loop-ty.ty-index c.in_ok-copy-in-Some.copy c.ty-item.result c.loop-ty-test.true c.ty-item.is c.in_ok-copy-in-Some.ensures c.loop-ty.invariant)

pub copied_fn-returns-after-loop-ty : goal.copied_fn-returns-after-loop-ty
copied_fn-returns-after-loop-ty t c =
    copied_whole c.args.function.now _ c.in_ok-given.given c.loop-ty.copies c.in-Some.types _ c.loop-ty.ty-index c.new-in-Some.ensures c.in_ok-given.ensures c.in-Some.is c.deref-ty-items.ensures.value c.loop-ty-test.false c.loop-ty.invariant
