use Rattle.std.proofs.Common.{◌≡◌, drop}
use Rattle.c65_link.specs.Symbols.{with_functions}
use Rattle.c65_link.proofs.symbols.own_functions.Given as goal

abbrev pub invariant-loop-function : goal.invariant-loop-function
invariant-loop-function l = with_functions l.targets (drop l.function-index l.functions) ≡ with_functions l.initial.targets l.functions
