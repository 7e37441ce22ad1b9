use Rattle.std.proofs.Common.{◌≤◌, length, ap, arith}
use Rattle.std.proofs.lemmas.List.{drop_all}
use Rattle.c65_depth.specs.Numbers.{greatest_soft, greatest_hard}
use Rattle.c65_depth.proofs.numbers.greatest.Goals as goal

pub returns-clause-soft : goal.returns-clause-soft
returns-clause-soft c =
    let all : length c.args.calls.now ≤ c.loop-call.call-index = omega arith in
    let none = ap (greatest_soft c.args.all.now) (drop_all c.loop-call.call-index c.args.calls.now all) in
    omega (arith, none, c.loop-call.invariant.0)

pub returns-clause-hard : goal.returns-clause-hard
returns-clause-hard c =
    let all : length c.args.calls.now ≤ c.loop-call.call-index = omega arith in
    let none = ap (greatest_hard c.args.all.now) (drop_all c.loop-call.call-index c.args.calls.now all) in
    omega (arith, none, c.loop-call.invariant.1)
