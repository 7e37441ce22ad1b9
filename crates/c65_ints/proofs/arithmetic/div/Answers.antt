use Rattle.std.proofs.Common.{rules, FitsSigned, w64}
use Rattle.c65_ints.proofs.Wraps.{quotient_given, quotient_fits}
use Rattle.c65_ints.proofs.arithmetic.div.Goals as goal

pub returns-else-b-eq0-clause-value : goal.returns-else-b-eq0-clause-value
returns-else-b-eq0-clause-value c =
    let f = quotient_fits c.args.ty c.args.a c.args.b c.requires.a in
    let g : FitsSigned w64 c.wrap.result = search rules in
    quotient_given _ _ _ _ c.ranges.a c.ranges.b f g c.if-b-eq0.false c.wrap.ensures.value
