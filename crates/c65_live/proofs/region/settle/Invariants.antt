use Rattle.std.proofs.Common.{◌≡◌, ℕ, ◌≤◌, length, get_or}
use Rattle.c65_code.specs.Parts.{no_parts}
use Rattle.c65_live.specs.Sweeps.{AreSound, room}
use Rattle.c65_live.proofs.region.settle.Given as goal

abbrev pub invariant-loop-out : goal.invariant-loop-out
invariant-loop-out l = record {
  long : length l.live ≡ length l.lines;
  sound : AreSound l.lines l.out l.live;
  behind : (q : ℕ) → l.end ≤ q → get_or l.live q no_parts ≡ get_or l.fn.live q no_parts;
}

abbrev pub decreases-loop-out : goal.decreases-loop-out
decreases-loop-out l = room l.live
