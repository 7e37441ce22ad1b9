use Rattle.std.proofs.Common.{◌≡◌, ◌++◌, drop}
use Rattle.c65_asm.specs.Text.{lines_text}
use Rattle.c65_asm.proofs.printing.put_lines.Given as goal

abbrev pub invariant-loop-line : goal.invariant-loop-line
invariant-loop-line l = l.out.items ++ lines_text l.symbols (drop l.line-index l.lines) ≡ l.initial.out.items ++ lines_text l.symbols l.lines
