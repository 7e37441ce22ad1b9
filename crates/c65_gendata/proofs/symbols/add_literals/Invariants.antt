use Rattle.std.proofs.Common.{◌≡◌, ◌+◌, drop}
use Rattle.c65_gendata.specs.Symbols.{with_literals}
use Rattle.c65_gendata.proofs.symbols.add_literals.Given as goal

abbrev pub invariant-loop-number : goal.invariant-loop-number
invariant-loop-number l = with_literals (l.first + l.number) (drop l.number l.literals) l.into.items ≡ with_literals l.first l.literals l.initial.into.items
