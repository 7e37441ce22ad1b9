use Rattle.std.proofs.Common.{◌≡◌, replicate}
use Rattle.c65_genwide.specs.Lines.{with_lines}
use Rattle.c65_genload.proofs.times.put_times.Given as goal

abbrev pub invariant-loop-round : goal.invariant-loop-round
invariant-loop-round l = l.draft ≡ with_lines l.initial.draft (replicate l._round l.line)
