use Rattle.std.proofs.Common.{◌≡◌, ◌++◌, List, length}
use Rattle.c65_macro.specs.declared.sets.Node.{Node}
use Rattle.c65_macro.specs.Sets.{Extends, set_of, either}
use Rattle.c65_macro.specs.Items.{hide_all}
use Rattle.c65_macro.specs.Views.{items_of}
use Rattle.c65_macro.proofs.fill.hidden.Given as goal

abbrev pub invariant-loop-item : goal.invariant-loop-item
invariant-loop-item l = record {
  kept : Extends l.fn.sets l.sets;
  joined_is : (nodes : List Node) → Extends l.sets nodes → set_of nodes l.joined.0 ≡ either (set_of nodes l.fn.hide.0) (set_of nodes l.before.0);
  out_is : (nodes : List Node) → Extends l.sets nodes → items_of nodes l.out.items ++ hide_all (set_of nodes l.fn.hide.0) (items_of nodes l.rest) ≡ hide_all (set_of nodes l.fn.hide.0) (items_of nodes l.items);
}

abbrev pub decreases-loop-item : goal.decreases-loop-item
decreases-loop-item l = length l.rest
