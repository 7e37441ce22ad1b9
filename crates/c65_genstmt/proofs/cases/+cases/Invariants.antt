use Rattle.std.proofs.Common.{◌≡◌, ◌++◌, drop}
use Rattle.c65_csem.specs.Statements.{cases_in}
use Rattle.c65_csem.specs.Views.{stmts_of}
use Rattle.c65_genstmt.proofs.cases.+cases.Given as goal

abbrev pub invariant-add_cases_in-loop-stmt : goal.invariant-add_cases_in-loop-stmt
invariant-add_cases_in-loop-stmt l = l.into.items ++ cases_in (stmts_of (drop l.stmt-index l.stmts)) ≡ l.fn.into.items ++ cases_in (stmts_of l.stmts)
