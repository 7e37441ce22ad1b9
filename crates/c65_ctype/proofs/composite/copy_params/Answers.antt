use Rattle.c65_ctype.proofs.ViewLaws.{copied_next}
use Rattle.c65_ctype.proofs.composite.copy_params.Goals as goal

pub loop-ty-preserved : goal.loop-ty-preserved
loop-ty-preserved c = rw c.in_ok-push-in-Some.ensures.items (copied_next _ _ c.loop-ty.ty-index c.in_ok-copy-in-Some.copy c.ty-item.result c.loop-ty-test.true c.ty-item.is c.in_ok-copy-in-Some.ensures c.loop-ty.invariant)
