use Rattle.std.proofs.Common.{◌≡◌, drop}
use Rattle.std.specs.Prelude.{min, max}
use Rattle.c65_csem.specs.Views.{stmts_of}
use Rattle.c65_csem_need.specs.Needs.{greatest_need_of_all}
use Rattle.c65_csem_need.proofs.needs.+statements.Given as goal

abbrev pub invariant-greatest_need_of_all-loop-stmt : goal.invariant-greatest_need_of_all-loop-stmt
invariant-greatest_need_of_all-loop-stmt l = max l.most (min (greatest_need_of_all (stmts_of (drop l.stmt-index l.stmts))) 4294967295) ≡ min (greatest_need_of_all (stmts_of l.stmts)) 4294967295
