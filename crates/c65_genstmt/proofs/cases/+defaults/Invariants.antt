use Rattle.std.proofs.Common.{◌≡◌, drop}
use Rattle.c65_csem.specs.Views.{stmts_of}
use Rattle.c65_genstmt.specs.Cases.{have_default}
use Rattle.c65_genstmt.proofs.cases.+defaults.Given as goal

abbrev pub invariant-have_default-loop-stmt : goal.invariant-have_default-loop-stmt
invariant-have_default-loop-stmt l = have_default (stmts_of (drop l.stmt-index l.stmts)) ≡ have_default (stmts_of l.stmts)
