use Rattle.std.proofs.Common.{◌≡◌, drop}
use Rattle.c65_link.specs.Symbols.{missing_in_functions}
use Rattle.c65_link.proofs.missing.in_functions.Given as goal

abbrev pub invariant-loop-function : goal.invariant-loop-function
invariant-loop-function l = missing_in_functions l.targets (drop l.function-index l.functions) ≡ missing_in_functions l.targets l.functions
