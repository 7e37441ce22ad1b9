use Rattle.std.proofs.Common.{◌≡◌, drop, length}
use Rattle.c65_live.specs.Renewals.{before_all, afters}
use Rattle.c65_live.proofs.renew.afters.Given as goal

abbrev pub invariant-loop-at : goal.invariant-loop-at
invariant-loop-at l = (l.live ≡ before_all l.out (drop l.at l.lines) l.fn.after) × (drop l.at l.sets.items ≡ afters l.out (drop l.at l.lines) l.fn.after) × (length l.sets.items ≡ length l.lines)
