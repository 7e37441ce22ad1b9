use Rattle.std.proofs.Common.{◌≡◌, drop}
use Rattle.c65_csem.specs.Views.{nodes_of}
use Rattle.c65_init_join.specs.Uses.{marks_of, named_in}
use Rattle.c65_init_join.proofs.marks.+exprs.Given as goal

abbrev pub invariant-mark_exprs-loop-e : goal.invariant-mark_exprs-loop-e
invariant-mark_exprs-loop-e l = named_in (nodes_of (drop l.e-index l.es)) (marks_of l.marks) ≡ named_in (nodes_of l.es) (marks_of l.fn.marks)
