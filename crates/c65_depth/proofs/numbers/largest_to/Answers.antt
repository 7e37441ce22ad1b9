use Rattle.std.proofs.Common.{◌≤◌, length, ap, arith}
use Rattle.std.proofs.lemmas.List.{drop_all}
use Rattle.c65_depth.specs.Numbers.{largest_to}
use Rattle.c65_depth.proofs.numbers.largest_to.Goals as goal

pub returns : goal.returns
returns c =
    let all : length c.args.calls.now ≤ c.loop-call.call-index = omega arith in
    let none = ap (largest_to c.args.func) (drop_all c.loop-call.call-index c.args.calls.now all) in
    omega (arith, none, c.loop-call.invariant)
