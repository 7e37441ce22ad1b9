use Rattle.c65_live.proofs.Edges.{settled_sides}
use Rattle.c65_live.proofs.Rises.{equal}
use Rattle.c65_live.proofs.renew.Sides.are_settled.Goals as goal

pub returns-then-eq : goal.returns-then-eq
returns-then-eq c h =
    settled_sides c.args.self.now c.args.after c.minus-lost.result c.minus.result (equal _ _ _ c.eq.ensures c.if-eq.true) c.minus-lost.ensures.set c.minus.ensures.set (equal _ _ _ c.eq-then-eq.ensures h)
