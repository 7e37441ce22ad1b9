use Rattle.std.proofs.Common.{◌≡◌, drop}
use Rattle.c65_genframe.specs.Arrivals.{arrived}
use Rattle.c65_genframe.proofs.arrive.Arrived.add_all.Given as goal

abbrev pub invariant-loop-object : goal.invariant-loop-object
invariant-loop-object l = arrived l.parts l.prototype l.low l.base (drop l.object-index l.params) l.self ≡ arrived l.parts l.prototype l.low l.base l.params l.initial.self
