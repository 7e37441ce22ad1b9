use Rattle.std.proofs.Common.{◌≡◌, drop}
use Rattle.c65_ctype.specs.Visited.{with_new}
use Rattle.c65_ctype.proofs.agree.add_new.Given as goal

abbrev pub invariant-loop-pair : goal.invariant-loop-pair
invariant-loop-pair l = with_new l.seen.items (drop l.pair-index l.found) ≡ with_new l.fn.seen.items l.found
