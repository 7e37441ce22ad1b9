use Rattle.std.proofs.Common.{◌≡◌}
use Rattle.c65_genwide.specs.Lines.{with_lines}
use Rattle.c65_genentry.specs.Entry.{bank_saves}
use Rattle.c65_genentry.proofs.entry.put_bank_saves.Given as goal

abbrev pub invariant-loop-byte : goal.invariant-loop-byte
invariant-loop-byte l = l.draft ≡ with_lines l.initial.draft (bank_saves l.byte)
