use Rattle.std.proofs.Common.{◌≡◌, [], length}
use Rattle.c65_asm.specs.Reading.{start}
use Rattle.c65_asm.specs.Read.{seen, lines_in}
use Rattle.c65_asm.proofs.reading.read_lines.Given as goal

abbrev pub decreases-loop-rest : goal.decreases-loop-rest
decreases-loop-rest l = length l.rest

abbrev pub invariant-loop-rest : goal.invariant-loop-rest
invariant-loop-rest l = lines_in (seen l.reader) l.line [] l.rest ≡ lines_in start 1 [] l.text
