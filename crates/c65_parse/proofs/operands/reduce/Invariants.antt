use Rattle.std.proofs.Common.{◌≡◌, vec_len}
use Rattle.c65_tree.specs.View.{expr_of}
use Rattle.c65_parse.specs.Expressions
use Rattle.c65_parse.specs.Views.{stack_of}
use Rattle.c65_parse.proofs.operands.reduce.Given as goal

abbrev pub invariant-loop-frame : goal.invariant-loop-frame
invariant-loop-frame l = Expressions.reduce l.rank (expr_of l.e.expr) (stack_of l.frames.items) ≡ Expressions.reduce l.rank (expr_of l.fn.e.expr) (stack_of l.fn.frames.items)

abbrev pub decreases-loop-frame : goal.decreases-loop-frame
decreases-loop-frame l = vec_len l.frames
