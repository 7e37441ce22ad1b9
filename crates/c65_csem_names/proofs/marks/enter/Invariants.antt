use Rattle.std.proofs.Common.{◌≡◌, drop}
use Rattle.c65_csem_names.specs.Tests
use Rattle.c65_csem_names.proofs.marks.enter.Given as goal

abbrev pub invariant-loop-object : goal.invariant-loop-object
invariant-loop-object l = (Tests.entered (drop l.object-index l.objects) l.marks.items ≡ Tests.entered l.objects l.fn.marks.items) × (Tests.left l.fresh.items l.marks.items ≡ l.fn.marks.items)
