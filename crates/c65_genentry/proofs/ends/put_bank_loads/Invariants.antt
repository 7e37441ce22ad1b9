use Rattle.std.proofs.Common.{◌≡◌}
use Rattle.c65_genwide.specs.Lines.{with_lines}
use Rattle.c65_genentry.specs.Ends.{bank_loads}
use Rattle.c65_genentry.proofs.ends.put_bank_loads.Given as goal

abbrev pub invariant-loop-byte : goal.invariant-loop-byte
invariant-loop-byte l = l.draft ≡ with_lines l.initial.draft (bank_loads l.byte)
