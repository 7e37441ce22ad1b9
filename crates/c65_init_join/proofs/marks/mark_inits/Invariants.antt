use Rattle.std.proofs.Common.{◌≡◌, map, drop}
use Rattle.c65_csem.specs.Views.{object_of}
use Rattle.c65_init_join.specs.Uses.{inits_named, marks_of}
use Rattle.c65_init_join.proofs.marks.mark_inits.Given as goal

abbrev pub invariant-loop-object : goal.invariant-loop-object
invariant-loop-object l = inits_named (map object_of (drop l.object-index l.objects)) (marks_of l.marks) ≡ inits_named (map object_of l.objects) (marks_of l.fn.marks)
