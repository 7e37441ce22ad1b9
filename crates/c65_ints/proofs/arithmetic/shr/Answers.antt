use Rattle.std.proofs.Common.{rules, ◌≡◌, ◌^◌, w64, of_z, to_z}
use Rattle.c65_ints.specs.Results.{floor_of}
use Rattle.c65_ints.proofs.Wraps.{floored_in_range}
use Rattle.c65_ints.proofs.arithmetic.shr.Goals as goal

pub returns-clause-in_range : goal.returns-clause-in_range
returns-clause-in_range c =
    let e : to_z w64 (of_z w64 c.div_euclid.result) ≡ floor_of c.args.a (2 ^ c.in_ok-count.count) = search rules in
    floored_in_range c.args.ty c.args.a c.in_ok-count.count _ c.requires e
