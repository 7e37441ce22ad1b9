use Rattle.std.proofs.Common.{◌≡◌, drop}
use Rattle.c65_link.specs.Symbols.{missing_in_datums}
use Rattle.c65_link.proofs.missing.in_datums.Given as goal

abbrev pub invariant-loop-datum : goal.invariant-loop-datum
invariant-loop-datum l = missing_in_datums l.targets (drop l.datum-index l.datums) ≡ missing_in_datums l.targets l.datums
