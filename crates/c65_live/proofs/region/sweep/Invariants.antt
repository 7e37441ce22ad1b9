use Rattle.std.proofs.Common.{◌≡◌, ◌<◌, ◌≤◌, ℕ, true, false, get_or}
use Rattle.c65_code.specs.Parts.{no_parts}
use Rattle.c65_live.specs.Flows.{flows_of, joined_at, before_at}
use Rattle.c65_live.specs.Sweeps.{AreSound, room}
use Rattle.c65_live.proofs.region.sweep.Given as goal

-- the lines up to `at` are left; what is live before the last line that was gone over is `next`
abbrev pub invariant-loop-at : goal.invariant-loop-at
invariant-loop-at l = record {
  most : l.at ≤ l.end;
  next : l.next ≡ before_at (flows_of l.lines l.out) l.live l.at;
  sound : AreSound l.lines l.out l.fn.live → AreSound l.lines l.out l.live;
  behind : (q : ℕ) → l.end ≤ q → get_or l.live q no_parts ≡ get_or l.fn.live q no_parts;
  same : l.risen ≡ false → l.live ≡ l.fn.live;
  closed : l.risen ≡ false → (q : ℕ) → l.at ≤ q → q < l.end → joined_at (flows_of l.lines l.out) l.live q ≡ get_or l.live q no_parts;
  less : l.risen ≡ true → room l.live < room l.fn.live;
}
