use Rattle.std.proofs.Common.{◌≡◌, drop}
use Rattle.c65_pass.specs.Labels.{first_jump}
use Rattle.c65_pass.proofs.labels.first_jump.Given as goal

abbrev pub invariant-loop-line : goal.invariant-loop-line
invariant-loop-line l = first_jump (drop l.line-index l.lines) ≡ first_jump l.lines
