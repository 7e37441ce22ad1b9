use Rattle.std.proofs.Common.{◌≡◌, ◌+◌, drop}
use Rattle.c65_gendata.specs.Symbols.{with_functions}
use Rattle.c65_gendata.proofs.symbols.add_functions.Given as goal

abbrev pub invariant-loop-number : goal.invariant-loop-number
invariant-loop-number l = with_functions l.names (l.first + l.number) (drop l.number l.functions) l.into.items ≡ with_functions l.names l.first l.functions l.initial.into.items
