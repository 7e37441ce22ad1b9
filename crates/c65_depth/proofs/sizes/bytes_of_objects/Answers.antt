use Rattle.std.proofs.Common.{◌≤◌, length, ap, arith}
use Rattle.std.proofs.lemmas.List.{drop_all}
use Rattle.c65_csem.specs.Views.{unit_of}
use Rattle.c65_meaning.specs.Costs.{bytes_of_objects}
use Rattle.c65_depth.proofs.sizes.bytes_of_objects.Goals as goal

pub returns : goal.returns
returns c =
    let all : length c.args.objects.now ≤ c.loop-object.object-index = omega arith in
    let none = ap (bytes_of_objects (unit_of c.args.parts.now)) (drop_all c.loop-object.object-index c.args.objects.now all) in
    omega (arith, none, c.loop-object.invariant.0, c.loop-object.invariant.1)
