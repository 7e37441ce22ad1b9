use Rattle.std.proofs.Common.{◌≡◌, drop}
use Rattle.c65_genframe.specs.Marks.{greatest}
use Rattle.c65_genframe.proofs.mark.greatest.Given as goal

abbrev pub invariant-loop-object : goal.invariant-loop-object
invariant-loop-object l = greatest l.number (drop l.object-index l.objects) ≡ greatest l.first l.objects
