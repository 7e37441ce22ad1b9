use Rattle.std.proofs.Common.{◌≡◌, drop}
use Rattle.c65_code.specs.Segments.{closed_by, is_closed}
use Rattle.c65_asm.proofs.reader.is_closed.Given as goal

abbrev pub invariant-loop-line : goal.invariant-loop-line
invariant-loop-line l = closed_by l.closed (drop l.line-index l.lines) ≡ is_closed l.lines
