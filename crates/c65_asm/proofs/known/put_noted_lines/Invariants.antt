use Rattle.std.proofs.Common.{◌≡◌, ◌++◌, drop}
use Rattle.c65_asm.specs.Known.{noted_lines_text}
use Rattle.c65_asm.proofs.known.put_noted_lines.Given as goal

abbrev pub invariant-loop-at : goal.invariant-loop-at
invariant-loop-at l = l.out.items ++ noted_lines_text l.symbols (drop l.at l.lines) (drop l.at l.notes) ≡ l.initial.out.items ++ noted_lines_text l.symbols l.lines l.notes
