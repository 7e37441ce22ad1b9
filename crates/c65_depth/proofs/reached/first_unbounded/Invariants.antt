use Rattle.std.proofs.Common.{◌≡◌}
use Rattle.c65_depth.specs.Reached.{is_numbered_unbounded}
use Rattle.c65_depth.specs.Tables.{first_of}
use Rattle.c65_depth.proofs.reached.first_unbounded.Given as goal

abbrev pub invariant-loop-func : goal.invariant-loop-func
invariant-loop-func l = l.first ≡ first_of l.func (is_numbered_unbounded l.graph l.standings)
