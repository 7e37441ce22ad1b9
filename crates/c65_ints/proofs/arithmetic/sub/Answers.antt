use Rattle.std.proofs.Common.{rules, ◌-ℤ◌, FitsSigned, w64}
use Rattle.c65_ints.proofs.Wraps.{of_wrap}
use Rattle.c65_ints.proofs.arithmetic.sub.Goals as goal

pub returns-clause-value : goal.returns-clause-value
returns-clause-value c =
    let f : FitsSigned w64 (c.args.a -ℤ c.args.b) = search rules in
    let g : FitsSigned w64 c.wrap.result = search rules in
    of_wrap ◌-ℤ◌ _ _ _ _ c.ranges.a c.ranges.b f g c.wrap.ensures.value
