use Rattle.std.proofs.Common.{◌≡◌, drop}
use Rattle.c65_gendata.specs.Data.{with_literals}
use Rattle.c65_gendata.proofs.data.add_literals.Given as goal

abbrev pub invariant-loop-number : goal.invariant-loop-number
invariant-loop-number l = with_literals l.numbers l.number (drop l.number l.literals) l.into.items ≡ with_literals l.numbers 0 l.literals l.initial.into.items
