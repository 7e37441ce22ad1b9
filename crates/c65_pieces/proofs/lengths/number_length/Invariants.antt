use Rattle.std.proofs.Common.{◌≡◌, ◌+◌, length}
use Rattle.c65_lex.specs.Cells.{bytes}
use Rattle.c65_pieces.specs.Settled.{ahead}
use Rattle.c65_lex.specs.Lengths.{tail_from}
use Rattle.c65_pieces.proofs.lengths.number_length.Given as goal

abbrev pub invariant-loop-reading : goal.invariant-loop-reading
invariant-loop-reading l = record {
  counted : l.count + length (ahead l.lines l.place) ≡ 1 + length (ahead l.lines l.fn.from);
  same : tail_from l.count l.before (bytes (ahead l.lines l.place)) ≡ tail_from 1 l.fn.first (bytes (ahead l.lines l.fn.from));
}

abbrev pub decreases-loop-reading : goal.decreases-loop-reading
decreases-loop-reading l = length (ahead l.lines l.place)
