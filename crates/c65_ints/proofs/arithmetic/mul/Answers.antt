use Rattle.std.proofs.Common.{rules, ◌*ℤ◌, FitsSigned, w64}
use Rattle.c65_ints.proofs.Wraps.{of_wrap, product_fits}
use Rattle.c65_ints.proofs.arithmetic.mul.Goals as goal

pub returns-in_default-clause-value : goal.returns-in_default-clause-value
returns-in_default-clause-value c =
    let f = product_fits c.args.ty c.args.a c.args.b c.in_default.not-ULong c.requires.a c.requires.b in
    let g : FitsSigned w64 c.wrap.result = search rules in
    of_wrap ◌*ℤ◌ _ _ _ _ c.ranges.a c.ranges.b f g c.wrap.ensures.value
