use Rattle.std.proofs.Common.{◌≡◌, List, length}
use Rattle.c65_code.specs.declared.line.Line.{Line}
use Rattle.c65_code.specs.declared.parts.RegSet.{RegSet}
use Rattle.c65_live.specs.Flows.{flows_of}
use Rattle.c65_live.specs.Sweeps.{AreSound, room}
use Rattle.c65_live.proofs.table.settled.Given as goal

abbrev pub invariant-loop : goal.invariant-loop
invariant-loop l = record {
  long : length l.live.items ≡ length l.flows;
  sound : (lines : List Line) (out : RegSet) → l.flows ≡ flows_of lines out → AreSound lines out l.live.items;
}

abbrev pub decreases-loop : goal.decreases-loop
decreases-loop l = room l.live.items
