use Rattle.std.proofs.Common.{◌≡◌, [], drop}
use Rattle.c65_link.specs.Bodies.{far_labels}
use Rattle.c65_link.proofs.body.mark_far.Given as goal

abbrev pub invariant-loop-line : goal.invariant-loop-line
invariant-loop-line l = far_labels l.labels.entries l.at (drop l.line-index l.lines) ≡ far_labels [] 0 l.lines
