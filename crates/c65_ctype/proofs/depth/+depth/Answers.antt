use Rattle.std.proofs.Common.{arith}
use Rattle.c65_ctype.proofs.ViewLaws.{depth_next, depth_whole}
use Rattle.c65_ctype.proofs.depth.+depth.Goals as goal

pub depth_in-loop-ty-preserved : goal.depth_in-loop-ty-preserved
depth_in-loop-ty-preserved t c = omega (arith, depth_next _ c.loop-ty.ty-index c.ty-item.result c.loop-ty-test.true c.ty-item.is)

pub depth_in-returns-after-loop-ty : goal.depth_in-returns-after-loop-ty
depth_in-returns-after-loop-ty t c =
    omega (arith, depth_whole c.args.function.now c.in-Some.types _ c.loop-ty.ty-index c.in-Some.is c.deref-ty-items.ensures.value c.loop-ty-test.false, c.loop-ty.invariant, c.max.ensures, c.depth_of-given.ensures)
