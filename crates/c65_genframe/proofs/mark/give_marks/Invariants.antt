use Rattle.std.proofs.Common.{◌≡◌, drop}
use Rattle.c65_genframe.specs.Marks.{marked}
use Rattle.c65_genframe.proofs.mark.give_marks.Given as goal

abbrev pub invariant-loop-object : goal.invariant-loop-object
invariant-loop-object l = marked l.low l.with l.marks.items (drop l.object-index l.objects) ≡ marked l.low l.with l.initial.marks.items l.objects
