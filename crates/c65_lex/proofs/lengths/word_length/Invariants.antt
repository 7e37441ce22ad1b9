use Rattle.std.proofs.Common.{◌≡◌, ◌+◌, length}
use Rattle.c65_lex.specs.Cells.{ahead, bytes}
use Rattle.c65_lex.specs.Spellings
use Rattle.c65_lex.specs.Lengths.{run_from}
use Rattle.c65_lex.proofs.lengths.word_length.Given as goal

abbrev pub invariant-loop-reading : goal.invariant-loop-reading
invariant-loop-reading l = record {
  counted : l.count + length (ahead l.text l.place) ≡ 1 + length (ahead l.text l.fn.from);
  same : run_from l.count Spellings.is_word (bytes (ahead l.text l.place)) ≡ run_from 1 Spellings.is_word (bytes (ahead l.text l.fn.from));
}

abbrev pub decreases-loop-reading : goal.decreases-loop-reading
decreases-loop-reading l = length (ahead l.text l.place)
