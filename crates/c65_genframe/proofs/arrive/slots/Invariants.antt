use Rattle.std.proofs.Common.{◌≡◌, drop}
use Rattle.c65_genframe.specs.Arrivals.{slots}
use Rattle.c65_genframe.proofs.arrive.slots.Given as goal

abbrev pub invariant-loop-object : goal.invariant-loop-object
invariant-loop-object l = slots l.parts l.prototype (drop l.object-index l.params) l.total ≡ slots l.parts l.prototype l.params 0
