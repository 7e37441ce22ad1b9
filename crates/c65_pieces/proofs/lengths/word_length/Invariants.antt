use Rattle.std.proofs.Common.{◌≡◌, ◌+◌, length}
use Rattle.c65_lex.specs.Cells.{bytes}
use Rattle.c65_pieces.specs.Settled.{ahead}
use Rattle.c65_lex.specs.Spellings
use Rattle.c65_lex.specs.Lengths.{run_from}
use Rattle.c65_pieces.proofs.lengths.word_length.Given as goal

abbrev pub invariant-loop-reading : goal.invariant-loop-reading
invariant-loop-reading l = record {
  counted : l.count + length (ahead l.lines l.place) ≡ 1 + length (ahead l.lines l.fn.from);
  same : run_from l.count Spellings.is_word (bytes (ahead l.lines l.place)) ≡ run_from 1 Spellings.is_word (bytes (ahead l.lines l.fn.from));
}

abbrev pub decreases-loop-reading : goal.decreases-loop-reading
decreases-loop-reading l = length (ahead l.lines l.place)
