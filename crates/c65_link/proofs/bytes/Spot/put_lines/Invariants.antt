use Rattle.std.proofs.Common.{◌≡◌, ◌++◌, drop}
use Rattle.c65_link.specs.Bytes.{lines_bytes}
use Rattle.c65_link.proofs.bytes.Spot.put_lines.Given as goal

abbrev pub invariant-loop-line : goal.invariant-loop-line
invariant-loop-line l = l.out.items ++ lines_bytes l.self l.cursor (drop l.line-index l.lines) ≡ l.initial.out.items ++ lines_bytes l.self (record { far = 0; near = 0 }) l.lines
