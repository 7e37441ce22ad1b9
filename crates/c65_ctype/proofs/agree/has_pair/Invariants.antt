use Rattle.std.proofs.Common.{◌≡◌, drop}
use Rattle.c65_ctype.specs.Visited.{has_pair}
use Rattle.c65_ctype.proofs.agree.has_pair.Given as goal

abbrev pub invariant-loop-other : goal.invariant-loop-other
invariant-loop-other l = has_pair (drop l.other-index l.pairs) l.pair ≡ has_pair l.pairs l.pair
