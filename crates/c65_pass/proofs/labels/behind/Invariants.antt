use Rattle.std.proofs.Common.{◌≡◌, drop}
use Rattle.c65_pass.specs.Labels.{behind}
use Rattle.c65_pass.proofs.labels.behind.Given as goal

abbrev pub invariant-loop-at : goal.invariant-loop-at
invariant-loop-at l = behind l.label (drop l.at l.lines) ≡ behind l.label l.lines
