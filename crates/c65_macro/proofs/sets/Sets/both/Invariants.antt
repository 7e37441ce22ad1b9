use Rattle.std.proofs.Common.{◌≡◌, List}
use Rattle.c65_macro.specs.declared.sets.Node.{Node}
use Rattle.c65_macro.specs.Sets.{Extends, set_of, either, both}
use Rattle.c65_macro.proofs.sets.Sets.both.Given as goal

abbrev pub invariant-loop-node : goal.invariant-loop-node
invariant-loop-node l = record {
  grown : Extends l.fn.self l.self;
  common_is : (table : List Node) → Extends l.self table → either (set_of table l.common.0) (both (set_of table l.at.0) (set_of table l.other.0)) ≡ both (set_of table l.fn.set.0) (set_of table l.other.0);
}

abbrev pub decreases-loop-node : goal.decreases-loop-node
decreases-loop-node l = l.at.0
