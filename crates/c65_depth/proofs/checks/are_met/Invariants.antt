use Rattle.std.proofs.Common.{◌≡◌}
use Rattle.c65_depth.specs.Checks.{is_met}
use Rattle.c65_depth.specs.Tables.{every}
use Rattle.c65_depth.proofs.checks.are_met.Given as goal

abbrev pub invariant-loop-func : goal.invariant-loop-func
invariant-loop-func l = l.met ≡ every l.func (is_met l.graph l.costs l.standings l.given)
