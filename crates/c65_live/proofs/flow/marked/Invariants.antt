use Rattle.std.proofs.Common.{◌≡◌, [], drop}
use Rattle.c65_live.specs.Flows.{labels_from}
use Rattle.c65_live.proofs.flow.marked.Given as goal

abbrev pub invariant-loop-at : goal.invariant-loop-at
invariant-loop-at l = labels_from l.labels.entries l.at (drop l.at l.lines) ≡ labels_from [] 0 l.lines
