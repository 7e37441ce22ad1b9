use Rattle.std.proofs.Common.{◌≡◌, List}
use Rattle.c65_macro.specs.declared.sets.Node.{Node}
use Rattle.c65_macro.specs.Sets.{Extends, set_of}
use Rattle.c65_macro.proofs.sets.Sets.has.Given as goal

abbrev pub invariant-loop-node : goal.invariant-loop-node
invariant-loop-node l = (table : List Node) → Extends l.self table → set_of table l.at.0 l.name.0 ≡ set_of table l.fn.set.0 l.name.0

abbrev pub decreases-loop-node : goal.decreases-loop-node
decreases-loop-node l = l.at.0
