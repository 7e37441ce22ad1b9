use Rattle.std.proofs.Common.{◌≡◌, ◌≤◌, ℕ, List, length, drop, ap, arith}
use Rattle.std.proofs.lemmas.List.{drop_all}
use Rattle.c65_genframe.specs.Frames.{all_bytes}
use Rattle.c65_genframe.proofs.check.all_bytes.Goals as goal

pub returns : goal.returns
returns c =
    let objects : List ℕ = c.args.objects.now in
    let all : length objects ≤ c.loop-object.object-index = omega arith in
    let none : all_bytes c.args.parts.now (drop c.loop-object.object-index objects) ≡ 0 = ap (all_bytes c.args.parts.now) (drop_all c.loop-object.object-index objects all) in
    omega (arith, none, c.loop-object.invariant.0, c.loop-object.invariant.1)
