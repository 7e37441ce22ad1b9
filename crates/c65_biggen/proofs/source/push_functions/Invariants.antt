use Rattle.std.proofs.Common.{◌≡◌, ◌-◌, ◌++◌}
use Rattle.c65_biggen.specs.Generated.{functions}
use Rattle.c65_biggen.proofs.source.push_functions.Given as goal

abbrev pub invariant-loop-index : goal.invariant-loop-index
invariant-loop-index l = l.initial.source.items ++ functions l.count 0 l.count ≡ l.source.items ++ functions (l.count - l.index) l.index l.number
