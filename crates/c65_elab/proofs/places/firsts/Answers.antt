use Rattle.c65_elab.proofs.Beginnings.{firsts_next, firsts_whole}
use Rattle.c65_elab.proofs.places.firsts.Goals as goal

pub loop-expr-preserved : goal.loop-expr-preserved
loop-expr-preserved c = firsts_next c.args.list.now c.loop-expr.expr-index c.expr-item.result c.loop-expr.places.items c.push.new.self.items c.first.result c.loop-expr-test.true c.expr-item.is c.loop-expr.invariant c.first.ensures c.in_ok-push.ensures.items

pub returns : goal.returns
returns c = firsts_whole c.args.list.now c.loop-expr.expr-index c.loop-expr.places.items c.loop-expr-test.false c.loop-expr.invariant
