use Rattle.std.proofs.Common.{◌≡◌, drop}
use Rattle.std.specs.List.{list_all}
use Rattle.c65_depth.specs.Checks.{covers_if, given_at}
use Rattle.c65_depth.proofs.checks.covers_all.Given as goal

abbrev pub invariant-loop-call : goal.invariant-loop-call
invariant-loop-call l = list_all (λ c. covers_if l.cost l.numbers (given_at l.given c.callee)) (drop l.call-index l.calls) ≡ list_all (λ c. covers_if l.cost l.numbers (given_at l.given c.callee)) l.calls
