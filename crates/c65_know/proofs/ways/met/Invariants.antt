use Rattle.std.proofs.Common.{◌≡◌, drop}
use Rattle.c65_know.specs.Known.{met, all_ways}
use Rattle.c65_know.proofs.ways.met.Given as goal

abbrev pub invariant-loop-at : goal.invariant-loop-at
invariant-loop-at l = met l.label l.known (all_ways (drop l.at l.lines) (drop l.at l.notes)) ≡ met l.label l.fn.way (all_ways l.lines l.notes)
