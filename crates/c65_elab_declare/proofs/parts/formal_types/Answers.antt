use Rattle.c65_elab_declare.proofs.Lists.{types_next}
use Rattle.c65_elab_declare.proofs.parts.formal_types.Goals as goal

pub loop-formal-preserved : goal.loop-formal-preserved
loop-formal-preserved c = rw c.in_ok-push.ensures.items (types_next _ _ c.loop-formal.formal-index c.in_ok-copy.copy c.formal-item.result c.loop-formal-test.true c.formal-item.is c.in_ok-copy.ensures c.loop-formal.invariant)
