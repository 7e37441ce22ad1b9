use Rattle.std.proofs.Common.{◌≡◌, ◌+◌, ◌≤◌, drop}
use Rattle.c65_genframe.specs.Places.{placed_all}
use Rattle.c65_genframe.proofs.place.Placed.add_all.Given as goal

abbrev pub invariant-loop-index : goal.invariant-loop-index
invariant-loop-index l = record {
  same : placed_all l.parts l.modes (l.low + l.index) (drop l.index l.marks) l.self ≡ placed_all l.parts l.modes l.low l.marks l.initial.self;
  grows : l.initial.self.total ≤ l.self.total;
}
