use Rattle.std.proofs.Common.{rules, FitsSigned, w64}
use Rattle.c65_ints.proofs.Wraps.{raised_by, shifted_given}
use Rattle.c65_ints.proofs.arithmetic.shl.Goals as goal

pub overflow_mul-a : goal.overflow_mul-a
overflow_mul-a c = raised_by c.args.ty _ _ c.in_ok-count.count c.ranges.a c.requires c.in_ok-count.ensures.bound c.power.ensures

pub returns-clause-value : goal.returns-clause-value
returns-clause-value c =
    let g : FitsSigned w64 c.wrap.result = search rules in
    shifted_given c.args.ty _ _ c.in_ok-count.count _ c.ranges.a c.requires c.in_ok-count.ensures.bound c.power.ensures g c.wrap.ensures.value _ c.ranges.count c.in_ok-count.ensures.value
