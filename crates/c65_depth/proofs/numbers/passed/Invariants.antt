use Rattle.std.proofs.Common.{◌≡◌}
use Rattle.c65_depth.specs.Numbers.{largest_from}
use Rattle.c65_depth.specs.Tables.{greatest_of}
use Rattle.c65_depth.proofs.numbers.passed.Given as goal

abbrev pub invariant-loop-caller : goal.invariant-loop-caller
invariant-loop-caller l = l.largest ≡ greatest_of l.caller (largest_from l.graph l.standings l.func)
