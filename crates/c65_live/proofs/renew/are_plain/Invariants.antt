use Rattle.std.proofs.Common.{◌≡◌, drop}
use Rattle.c65_live.specs.Renewals.{are_plain}
use Rattle.c65_live.proofs.renew.are_plain.Given as goal

abbrev pub invariant-loop-line : goal.invariant-loop-line
invariant-loop-line l = are_plain (drop l.line-index l.lines) ≡ are_plain l.lines
