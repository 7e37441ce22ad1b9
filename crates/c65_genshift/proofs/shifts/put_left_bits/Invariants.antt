use Rattle.std.proofs.Common.{◌≡◌}
use Rattle.c65_genwide.specs.Lines.{with_lines}
use Rattle.c65_genshift.specs.Shifts.{left_turns}
use Rattle.c65_genshift.proofs.shifts.put_left_bits.Given as goal

abbrev pub invariant-loop-round : goal.invariant-loop-round
invariant-loop-round l = l.draft ≡ with_lines l.initial.draft (left_turns l._round)
