use Rattle.std.proofs.Common.{◌≡◌, drop}
use Rattle.c65_link.specs.Symbols.{with_datums}
use Rattle.c65_link.proofs.symbols.own_datums.Given as goal

abbrev pub invariant-loop-datum : goal.invariant-loop-datum
invariant-loop-datum l = with_datums l.targets (drop l.datum-index l.datums) ≡ with_datums l.initial.targets l.datums
