use Rattle.std.proofs.Common.{◌≡◌, drop}
use Rattle.c65_parse.specs.Reading.{rest_of, blocks_of}
use Rattle.c65_parse_frames.specs.Views.{stack_of}
use Rattle.c65_decl.specs.Statements.{statement_run, statement_read}
use Rattle.c65_decl.proofs.statement.statement.Given as goal

abbrev pub invariant-loop-step : goal.invariant-loop-step
invariant-loop-step l = statement_run 256 l.unit (drop l._step-index l.unit) (stack_of l.frames.items) (blocks_of l.parser) (rest_of l.parser) ≡ statement_read 256 l.unit (blocks_of l.fn.parser) (rest_of l.fn.parser)
