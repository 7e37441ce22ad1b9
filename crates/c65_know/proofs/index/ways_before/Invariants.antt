use Rattle.std.proofs.Common.{take}
use Rattle.c65_know.specs.Known.{all_ways}
use Rattle.c65_know.specs.Index.{IsIndex}
use Rattle.c65_know.proofs.index.ways_before.Given as goal

abbrev pub invariant-loop-at : goal.invariant-loop-at
invariant-loop-at l = IsIndex l.ways.entries (all_ways (take l.at l.lines) (take l.at l.notes))
