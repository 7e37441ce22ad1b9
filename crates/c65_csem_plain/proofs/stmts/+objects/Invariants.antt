use Rattle.std.proofs.Common.{◌≡◌, drop, map, ◌++◌}
use Rattle.c65_csem.specs.Views.{stmts_of}
use Rattle.c65_csem_plain.specs.Body
use Rattle.c65_csem_plain.specs.Tests
use Rattle.c65_csem_plain.proofs.stmts.+objects.Given as goal

abbrev pub invariant-add_objects_in-loop-stmt : goal.invariant-add_objects_in-loop-stmt
invariant-add_objects_in-loop-stmt l = l.objects.items ++ Body.objects_in (stmts_of (drop l.stmt-index l.stmts)) ≡ l.fn.objects.items ++ Body.objects_in (stmts_of l.stmts)
