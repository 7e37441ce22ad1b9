use Rattle.std.proofs.Common.{◌≡◌, map, drop}
use Rattle.c65_csem.specs.Views.{func_of}
use Rattle.c65_init_join.specs.Uses.{bodies_named, marks_of}
use Rattle.c65_init_join.proofs.marks.mark_bodies.Given as goal

abbrev pub invariant-loop-func : goal.invariant-loop-func
invariant-loop-func l = bodies_named (map func_of (drop l.func-index l.funcs)) (marks_of l.marks) ≡ bodies_named (map func_of l.funcs) (marks_of l.fn.marks)
