use Rattle.std.proofs.Common.{◌≡◌, length}
use Rattle.c65_macro.specs.Sets.{Extends}
use Rattle.c65_macro.specs.Predefined
use Rattle.c65_macro.proofs.predefined.add_all.Given as goal

abbrev pub invariant-loop-given : goal.invariant-loop-given
invariant-loop-given l = record {
  grown : Extends l.fn.names l.names;
  added : Predefined.with_all l.options l.table.entries l.names l.rest ≡ Predefined.with_all l.options l.fn.table.entries l.fn.names Predefined.all;
}

abbrev pub decreases-loop-given : goal.decreases-loop-given
decreases-loop-given l = length l.rest
