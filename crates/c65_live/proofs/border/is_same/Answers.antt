use Rattle.std.proofs.Common.{arith}
use Rattle.c65_live.specs.Regions.{before, same}
use Rattle.c65_live.proofs.Swept.{rest_same}
use Rattle.c65_live.proofs.border.is_same.Goals as goal

pub returns-then-at-change : goal.returns-then-at-change
returns-then-at-change c h = same (before c.if-at-change.true) (c.are_equal.ensures h)

pub returns : goal.returns
returns c h = rest_same c.args.old.now c.args.live.now c.args.change.at c.args.change.count c.args.change.new c.args.at (omega (arith, c.if-at-end.false)) (c.are_equal-2.ensures h)
