use Rattle.std.proofs.Common.{◌≡◌, ◌++◌, drop}
use Rattle.c65_link.specs.Symbols.{named_targets}
use Rattle.c65_link.proofs.symbols.all_named.Given as goal

abbrev pub invariant-loop-symbol : goal.invariant-loop-symbol
invariant-loop-symbol l = l.targets.items ++ named_targets (drop l.symbol-index l.symbols) ≡ named_targets l.symbols
