use Rattle.std.proofs.Common.{◌≡◌, drop}
use Rattle.c65_csem.specs.Views.{stmts_of}
use Rattle.c65_init_join.specs.Uses.{marks_of, stmts_named}
use Rattle.c65_init_join.proofs.marks.+stmts.Given as goal

abbrev pub invariant-mark_stmts-loop-stmt : goal.invariant-mark_stmts-loop-stmt
invariant-mark_stmts-loop-stmt l = stmts_named (stmts_of (drop l.stmt-index l.stmts)) (marks_of l.marks) ≡ stmts_named (stmts_of l.stmts) (marks_of l.fn.marks)
