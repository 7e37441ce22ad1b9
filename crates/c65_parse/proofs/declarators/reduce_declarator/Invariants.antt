use Rattle.std.proofs.Common.{◌≡◌, vec_len}
use Rattle.c65_tree.specs.View.{declarator_of}
use Rattle.c65_parse.specs.Declarators
use Rattle.c65_parse.specs.Views.{stack_of}
use Rattle.c65_parse.proofs.declarators.reduce_declarator.Given as goal

abbrev pub invariant-loop-frame : goal.invariant-loop-frame
invariant-loop-frame l = Declarators.reduce_declarator (declarator_of l.d.declarator) (stack_of l.frames.items) ≡ Declarators.reduce_declarator (declarator_of l.fn.d.declarator) (stack_of l.fn.frames.items)

abbrev pub decreases-loop-frame : goal.decreases-loop-frame
decreases-loop-frame l = vec_len l.frames
