use Rattle.std.proofs.Common.{◌≤◌, length, ap, arith}
use Rattle.std.proofs.lemmas.List.{drop_all}
use Rattle.c65_csem.specs.Views.{nodes_of, unit_of}
use Rattle.c65_meaning.specs.Shapes.{types_of}
use Rattle.c65_meaning.specs.Costs.{argument_bytes}
use Rattle.c65_depth.proofs.calls.argument_bytes.Goals as goal

pub returns : goal.returns
returns c =
    let all : length c.args.given.now ≤ c.loop-argument.argument-index = omega arith in
    let none = ap (λ es. argument_bytes (unit_of c.args.parts.now) (types_of (nodes_of es))) (drop_all c.loop-argument.argument-index c.args.given.now all) in
    omega (arith, none, c.loop-argument.invariant.0, c.loop-argument.invariant.1)
