use Rattle.std.proofs.Common.{◌≡◌, ◌+◌, ◌≤◌, ℕ, List, length, drop, ap, arith}
use Rattle.std.proofs.lemmas.List.{drop_all}
use Rattle.std.specs.Prelude.{sum_by}
use Rattle.c65_sim.proofs.run.arguments_size.Goals as goal

pub returns : goal.returns
returns c =
    let args : List (List ℕ) = c.args.args.now in
    let f : List ℕ → ℕ = λ arg. length arg + 1 in
    let all : length args ≤ c.loop-arg.arg-index = omega arith in
    let none : sum_by f (drop c.loop-arg.arg-index args) ≡ 0 = ap (sum_by f) (drop_all c.loop-arg.arg-index args all) in
    omega (arith, none, c.loop-arg.invariant.0, c.loop-arg.invariant.1)
