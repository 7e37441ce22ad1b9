use Rattle.std.proofs.Common.{◌≡◌, drop}
use Rattle.c65_init.specs.Fixed.{marked}
use Rattle.c65_init.proofs.fixed.mark.Given as goal

-- what is left gives what the whole gives
abbrev pub invariant-loop-object : goal.invariant-loop-object
invariant-loop-object l = marked l.marks.items (drop l.object-index l.objects) ≡ marked l.initial.marks.items l.objects
