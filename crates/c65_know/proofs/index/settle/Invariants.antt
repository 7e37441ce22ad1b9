use Rattle.std.proofs.Common.{◌≡◌, true, take}
use Rattle.c65_know.specs.Known.{all_ways, IsNotedTo, IsPassed}
use Rattle.c65_know.specs.Index.{IsIndex}
use Rattle.c65_know.proofs.index.settle.Given as goal

abbrev pub invariant-loop-at : goal.invariant-loop-at
invariant-loop-at l = record {
  right : IsNotedTo l.lines l.notes l.way l.at;
  index : IsIndex l.ways.entries (all_ways (take l.at l.lines) (take l.at l.notes));
  passed : l.as_before ≡ true → IsPassed l.lines l.notes (all_ways (take l.at l.lines) (take l.at l.notes)) l.at;
}
