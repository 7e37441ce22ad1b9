use Rattle.std.proofs.Common.{◌≡◌, ◌-◌, ◌++◌}
use Rattle.c65_biggen.specs.Generated.{calls}
use Rattle.c65_biggen.proofs.source.push_calls.Given as goal

abbrev pub invariant-loop-index : goal.invariant-loop-index
invariant-loop-index l = l.initial.source.items ++ calls l.count 0 ≡ l.source.items ++ calls (l.count - l.index) l.index
