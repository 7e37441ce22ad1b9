use Rattle.std.proofs.Common.{◌≡◌, drop}
use Rattle.c65_link.specs.Layouts.{with_functions}
use Rattle.c65_link.proofs.layout.Layout.put_functions.Given as goal

abbrev pub invariant-loop-function : goal.invariant-loop-function
invariant-loop-function l = with_functions l.self (drop l.function-index l.functions) ≡ with_functions l.initial.self l.functions
