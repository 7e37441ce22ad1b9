use Rattle.std.proofs.Common.{◌≡◌, ◌++◌, drop}
use Rattle.c65_csem.specs.Views.{stmts_of, unit_of}
use Rattle.c65_depth.specs.Calls.{calls_of_all}
use Rattle.c65_depth.proofs.calls.+statements.Given as goal

abbrev pub invariant-add_calls_of_all-loop-stmt : goal.invariant-add_calls_of_all-loop-stmt
invariant-add_calls_of_all-loop-stmt l = l.calls.items ++ calls_of_all (unit_of l.parts) (stmts_of (drop l.stmt-index l.stmts)) ≡ l.fn.calls.items ++ calls_of_all (unit_of l.parts) (stmts_of l.stmts)
