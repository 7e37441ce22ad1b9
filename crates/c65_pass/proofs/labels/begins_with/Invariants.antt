use Rattle.std.proofs.Common.{◌≡◌, drop}
use Rattle.c65_pass.specs.Labels.{begins_with}
use Rattle.c65_pass.proofs.labels.begins_with.Given as goal

abbrev pub invariant-loop-line : goal.invariant-loop-line
invariant-loop-line l = begins_with l.label (drop l.line-index l.lines) ≡ begins_with l.label l.lines
