use Rattle.std.proofs.Common.{◌≡◌, ◌++◌, List, length}
use Rattle.c65_macro.specs.declared.sets.Node.{Node}
use Rattle.c65_macro.specs.Items.{Item, put_count}
use Rattle.c65_macro.specs.Views.{items_of}
use Rattle.c65_macro.specs.Machine.{gather_in}
use Rattle.c65_macro.proofs.rest.Rest.gather.Given as goal

abbrev pub invariant-loop-item : goal.invariant-loop-item
invariant-loop-item l = (nodes : List Node) (tail : List Item) → put_count tail ≡ 0 → gather_in nodes l.words l.outside l.gathered (items_of nodes l.self ++ tail) ≡ gather_in nodes l.words l.outside l.fn.gathered (items_of nodes l.fn.self ++ tail)

abbrev pub decreases-loop-item : goal.decreases-loop-item
decreases-loop-item l = length l.self
