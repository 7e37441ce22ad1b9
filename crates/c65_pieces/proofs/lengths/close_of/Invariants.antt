use Rattle.std.proofs.Common.{◌≡◌, ◌+◌, length, false}
use Rattle.c65_lex.specs.Cells.{bytes}
use Rattle.c65_pieces.specs.Settled.{ahead}
use Rattle.c65_lex.specs.Lengths.{close_from}
use Rattle.c65_pieces.proofs.lengths.close_of.Given as goal

abbrev pub invariant-loop-reading : goal.invariant-loop-reading
invariant-loop-reading l = record {
  counted : l.count + length (ahead l.lines l.place) ≡ l.fn.start + length (ahead l.lines l.fn.from);
  same : close_from l.count l.quote l.plain l.taken (bytes (ahead l.lines l.place)) ≡ close_from l.fn.start l.quote l.plain false (bytes (ahead l.lines l.fn.from));
}

abbrev pub decreases-loop-reading : goal.decreases-loop-reading
decreases-loop-reading l = length (ahead l.lines l.place)
