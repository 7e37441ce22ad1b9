use Rattle.std.proofs.Common.{◌≡◌, drop, map, ◌++◌}
use Rattle.c65_csem.specs.Views.{stmts_of}
use Rattle.c65_csem_plain.specs.Arms.{have_few_arms}
use Rattle.c65_csem_plain.proofs.arms.+arms.Given as goal

abbrev pub invariant-have_few_arms-loop-stmt : goal.invariant-have_few_arms-loop-stmt
invariant-have_few_arms-loop-stmt l = have_few_arms l.outside (stmts_of (drop l.stmt-index l.stmts)) ≡ have_few_arms l.outside (stmts_of l.stmts)
