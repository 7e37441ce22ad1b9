use Rattle.std.proofs.Common.{◌≡◌, drop}
use Rattle.c65_live.specs.Renewals.{before_all}
use Rattle.c65_live.proofs.renew.before_all.Given as goal

abbrev pub invariant-loop-at : goal.invariant-loop-at
invariant-loop-at l = l.live ≡ before_all l.out (drop l.at l.lines) l.fn.after
