use Rattle.std.proofs.Common.{◌≡◌}
use Rattle.c65_genwide.specs.Lines.{with_lines}
use Rattle.c65_genentry.specs.Stack.{small_lower, repeated}
use Rattle.c65_genentry.proofs.stack.lower.Given as goal

abbrev pub invariant-loop-round : goal.invariant-loop-round
invariant-loop-round l = l.draft ≡ with_lines l.initial.draft (repeated l._round (small_lower 255))
