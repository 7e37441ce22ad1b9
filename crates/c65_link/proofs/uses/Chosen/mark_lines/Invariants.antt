use Rattle.std.proofs.Common.{◌≡◌, drop}
use Rattle.c65_link.specs.Symbols.{with_line_uses}
use Rattle.c65_link.proofs.uses.Chosen.mark_lines.Given as goal

abbrev pub invariant-loop-line : goal.invariant-loop-line
invariant-loop-line l = record l.self { marks = with_line_uses l.targets l.self.marks (drop l.line-index l.lines) } ≡ record l.initial.self { marks = with_line_uses l.targets l.initial.self.marks l.lines }
