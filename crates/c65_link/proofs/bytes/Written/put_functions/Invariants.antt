use Rattle.std.proofs.Common.{◌≡◌, drop}
use Rattle.c65_link.specs.Bytes.{with_functions}
use Rattle.c65_link.proofs.bytes.Written.put_functions.Given as goal

abbrev pub invariant-loop-function : goal.invariant-loop-function
invariant-loop-function l = with_functions l.tables l.self (drop l.function-index l.functions) ≡ with_functions l.tables l.initial.self l.functions
