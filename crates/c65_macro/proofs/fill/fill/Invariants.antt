use Rattle.std.proofs.Common.{◌≡◌, List, length}
use Rattle.c65_macro.specs.declared.sets.Node.{Node}
use Rattle.c65_macro.specs.Sets.{Extends}
use Rattle.c65_macro.specs.Fill
use Rattle.c65_macro.specs.Views.{use_of, filling_of}
use Rattle.c65_macro.proofs.fill.fill.Given as goal

abbrev pub invariant-loop-token : goal.invariant-loop-token
invariant-loop-token l = record {
  grown : Extends l.fn.names l.names;
  kept : Extends l.fn.sets l.sets;
  filled_is : (nodes : List Node) → Extends l.sets nodes → Fill.fill (use_of nodes l.params l.used) l.names (filling_of nodes l.filled) l.rest ≡ Fill.fill (use_of nodes l.params l.used) l.fn.names Fill.start l.body;
}

abbrev pub decreases-loop-token : goal.decreases-loop-token
decreases-loop-token l = length l.rest
