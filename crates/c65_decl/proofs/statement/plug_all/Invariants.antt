use Rattle.std.proofs.Common.{◌≡◌, vec_len}
use Rattle.c65_tree.specs.View.{stmt_of}
use Rattle.c65_parse.specs.Reading.{rest_of, blocks_of}
use Rattle.c65_parse_frames.specs.Views.{stack_of}
use Rattle.c65_decl.specs.Statements.{all_plugged}
use Rattle.c65_decl.proofs.statement.plug_all.Given as goal

abbrev pub invariant-loop-frame : goal.invariant-loop-frame
invariant-loop-frame l = all_plugged 256 (stack_of l.frames.items) (stmt_of l.stmt) (blocks_of l.parser) (rest_of l.parser) ≡ all_plugged 256 (stack_of l.fn.frames.items) (stmt_of l.fn.last) (blocks_of l.fn.parser) (rest_of l.fn.parser)

abbrev pub decreases-loop-frame : goal.decreases-loop-frame
decreases-loop-frame l = vec_len l.frames
