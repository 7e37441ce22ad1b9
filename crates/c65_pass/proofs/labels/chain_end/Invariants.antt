use Rattle.std.proofs.Common.{◌≡◌, Some}
use Rattle.c65_pass.specs.Labels.{hop, chain_from, chain_end}
use Rattle.c65_pass.proofs.labels.chain_end.Given as goal

abbrev pub invariant-loop-next : goal.invariant-loop-next
invariant-loop-next l = chain_from l.left l.lines l.label (hop l.lines l.label) ≡ chain_end l.lines (Some l.first)

abbrev pub decreases-loop-next : goal.decreases-loop-next
decreases-loop-next l = l.left
