use Rattle.std.proofs.Common.{◌≡◌}
use Rattle.c65_depth.specs.Reached.{standing}
use Rattle.c65_depth.specs.Tables.{each}
use Rattle.c65_depth.proofs.reached.standings.Given as goal

abbrev pub invariant-loop-func : goal.invariant-loop-func
invariant-loop-func l = l.standings.items ≡ each l.func (standing l.graph l.main)
