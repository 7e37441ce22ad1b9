use Rattle.std.proofs.Common.{◌≡◌, drop}
use Rattle.c65_link.specs.Layouts.{with_targets}
use Rattle.c65_link.proofs.layout.Layout.put_targets.Given as goal

abbrev pub invariant-loop-at : goal.invariant-loop-at
invariant-loop-at l = with_targets l.self l.at (drop l.at l.targets) ≡ with_targets l.initial.self 0 l.targets
