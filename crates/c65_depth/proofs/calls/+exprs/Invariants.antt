use Rattle.std.proofs.Common.{◌≡◌, ◌++◌, drop}
use Rattle.c65_csem.specs.Views.{nodes_of, unit_of}
use Rattle.c65_depth.specs.Calls.{calls_in_all}
use Rattle.c65_depth.proofs.calls.+exprs.Given as goal

abbrev pub invariant-add_calls_in_all-loop-argument : goal.invariant-add_calls_in_all-loop-argument
invariant-add_calls_in_all-loop-argument l = l.calls.items ++ calls_in_all (unit_of l.parts) (nodes_of (drop l.argument-index l.given)) ≡ l.fn.calls.items ++ calls_in_all (unit_of l.parts) (nodes_of l.given)
