use Rattle.std.proofs.Common.{◌≡◌, drop}
use Rattle.c65_gendata.specs.Symbols.{with_objects}
use Rattle.c65_gendata.proofs.symbols.add_objects.Given as goal

abbrev pub invariant-loop-number : goal.invariant-loop-number
invariant-loop-number l = with_objects l.names l.number (drop l.number l.objects) l.into.items ≡ with_objects l.names 0 l.objects l.initial.into.items
