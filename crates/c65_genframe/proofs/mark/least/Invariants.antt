use Rattle.std.proofs.Common.{◌≡◌, drop}
use Rattle.c65_genframe.specs.Marks.{least}
use Rattle.c65_genframe.proofs.mark.least.Given as goal

abbrev pub invariant-loop-object : goal.invariant-loop-object
invariant-loop-object l = least l.number (drop l.object-index l.objects) ≡ least l.first l.objects
