use Rattle.std.proofs.Common.{◌≡◌, vec_len}
use Rattle.c65_tree.specs.View.{init_of}
use Rattle.c65_parse.specs.Reading.{rest_of, blocks_of}
use Rattle.c65_parse_frames.specs.Views.{lists_of}
use Rattle.c65_decl.specs.Initialisers.{lists_closed}
use Rattle.c65_decl.proofs.initialiser.close_lists.Given as goal

abbrev pub invariant-loop-list : goal.invariant-loop-list
invariant-loop-list l = lists_closed (lists_of l.lists.items) (init_of l.init) (blocks_of l.parser) (rest_of l.parser) ≡ lists_closed (lists_of l.fn.lists.items) (init_of l.fn.last) (blocks_of l.fn.parser) (rest_of l.fn.parser)

abbrev pub decreases-loop-list : goal.decreases-loop-list
decreases-loop-list l = vec_len l.lists
