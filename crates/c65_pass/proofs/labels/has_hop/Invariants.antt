use Rattle.std.proofs.Common.{◌≡◌, drop}
use Rattle.c65_pass.specs.Labels.{has_hop}
use Rattle.c65_pass.proofs.labels.has_hop.Given as goal

abbrev pub invariant-loop-at : goal.invariant-loop-at
invariant-loop-at l = has_hop (drop l.at l.lines) ≡ has_hop l.lines
