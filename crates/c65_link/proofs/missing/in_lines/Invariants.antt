use Rattle.std.proofs.Common.{◌≡◌, drop}
use Rattle.c65_link.specs.Symbols.{missing_in_lines}
use Rattle.c65_link.proofs.missing.in_lines.Given as goal

abbrev pub invariant-loop-line : goal.invariant-loop-line
invariant-loop-line l = missing_in_lines l.targets (drop l.line-index l.lines) ≡ missing_in_lines l.targets l.lines
