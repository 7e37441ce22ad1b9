use Rattle.std.proofs.Common.{◌≡◌, List}
use Rattle.c65_macro.specs.declared.sets.Node.{Node}
use Rattle.c65_macro.specs.Sets.{Extends, set_of, either}
use Rattle.c65_macro.proofs.sets.Sets.joined.Given as goal

abbrev pub invariant-loop-other : goal.invariant-loop-other
invariant-loop-other l = record {
  grown : Extends l.fn.self l.self;
  held : (table : List Node) → Extends l.self table → either (set_of table l.other.0) (set_of table l.all.0) ≡ set_of table l.all.0;
  all_is : (table : List Node) → Extends l.self table → either (set_of table l.at.0) (set_of table l.all.0) ≡ either (set_of table l.fn.set.0) (set_of table l.other.0);
}

abbrev pub decreases-loop-other : goal.decreases-loop-other
decreases-loop-other l = l.at.0
