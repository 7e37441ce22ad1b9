use Rattle.std.proofs.Common.{◌≡◌, ◌<◌, ◌≤◌, ℕ, true, false, List, get_or}
use Rattle.c65_code.specs.declared.line.Line.{Line}
use Rattle.c65_code.specs.declared.parts.RegSet.{RegSet}
use Rattle.c65_code.specs.Parts.{no_parts}
use Rattle.c65_live.specs.Flows.{flows_of, joined_at, before_at}
use Rattle.c65_live.specs.Sweeps.{AreSound, room}
use Rattle.c65_live.proofs.sweep.sweep.Given as goal

-- `at` lines are left; what is live before the last line that was gone over is `next`
abbrev pub invariant-loop-at : goal.invariant-loop-at
invariant-loop-at l = record {
  next : l.next ≡ before_at l.flows l.live l.at;
  sound : (lines : List Line) (out : RegSet) → l.flows ≡ flows_of lines out → AreSound lines out l.fn.live → AreSound lines out l.live;
  same : l.risen ≡ false → l.live ≡ l.fn.live;
  closed : l.risen ≡ false → (q : ℕ) → l.at ≤ q → joined_at l.flows l.live q ≡ get_or l.live q no_parts;
  less : l.risen ≡ true → room l.live < room l.fn.live;
}
