use Rattle.std.proofs.Common.{◌≡◌, ◌+◌, length, false}
use Rattle.c65_lex.specs.Cells.{ahead, bytes}
use Rattle.c65_lex.specs.Lengths.{close_from}
use Rattle.c65_lex.proofs.lengths.close_of.Given as goal

abbrev pub invariant-loop-reading : goal.invariant-loop-reading
invariant-loop-reading l = record {
  counted : l.count + length (ahead l.text l.place) ≡ l.fn.start + length (ahead l.text l.fn.from);
  same : close_from l.count l.quote l.plain l.taken (bytes (ahead l.text l.place)) ≡ close_from l.fn.start l.quote l.plain false (bytes (ahead l.text l.fn.from));
}

abbrev pub decreases-loop-reading : goal.decreases-loop-reading
decreases-loop-reading l = length (ahead l.text l.place)
