use Rattle.std.proofs.Common.{◌≡◌, ◌+◌, ◌*◌, ◌-◌, length, map}
use Rattle.c65_ctype.specs.Views.{qty_of}
use Rattle.c65_elab_scope.specs.Scopes.{scope_of}
use Rattle.c65_tree.specs.View.{init_of}
use Rattle.c65_init_cells.specs.Sinks.{sink_of}
use Rattle.c65_init.specs.Initials.{elements_of, members_of, one_of}
use Rattle.c65_init.proofs.initial.+initial.Given as goal

abbrev pub decreases-from_item : goal.decreases-from_item
decreases-from_item l = 7 * l.left + 6

abbrev pub decreases-whole_part : goal.decreases-whole_part
decreases-whole_part l = 7 * l.left + 5

abbrev pub decreases-braced : goal.decreases-braced
decreases-braced l = 7 * l.left + 4

abbrev pub decreases-listed : goal.decreases-listed
decreases-listed l = 7 * l.left + 3

abbrev pub decreases-parts : goal.decreases-parts
decreases-parts l = 7 * l.left + 2

abbrev pub decreases-elements : goal.decreases-elements
decreases-elements l = 7 * l.left + 1

abbrev pub decreases-members : goal.decreases-members
decreases-members l = 7 * l.left + 1

abbrev pub decreases-one_part : goal.decreases-one_part
decreases-one_part l = 7 * l.left

-- what is left gives what the whole gives
abbrev pub invariant-elements-loop-turn : goal.invariant-elements-loop-turn
invariant-elements-loop-turn l = elements_of (one_of l.left) (qty_of l.element) l.base l.size l.count (map init_of l.items) (length l.items - l.turn) l.at l.taken (sink_of l.sink, scope_of l.scope) ≡ elements_of (one_of l.left) (qty_of l.element) l.base l.size l.count (map init_of l.items) (length l.items - l.from) l.from 0 (sink_of l.fn.sink, scope_of l.fn.scope)

abbrev pub invariant-members-loop-turn : goal.invariant-members-loop-turn
invariant-members-loop-turn l = members_of (one_of l.left) l.tag l.base (map init_of l.items) (length l.items - l.turn) l.at l.next (sink_of l.sink, scope_of l.scope) ≡ members_of (one_of l.left) l.tag l.base (map init_of l.items) (length l.items - l.from) l.from 0 (sink_of l.fn.sink, scope_of l.fn.scope)
