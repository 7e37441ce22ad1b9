use Rattle.std.proofs.Common.{◌≡◌, drop}
use Rattle.c65_parse.specs.Reading.{rest_of, blocks_of}
use Rattle.c65_parse_frames.specs.Views.{lists_of}
use Rattle.c65_decl.specs.Initialisers.{initialiser_run, initialiser_read}
use Rattle.c65_decl.proofs.initialiser.initialiser.Given as goal

abbrev pub invariant-loop-step : goal.invariant-loop-step
invariant-loop-step l = initialiser_run 256 (drop l._step-index l.unit) (lists_of l.lists.items) (blocks_of l.parser) (rest_of l.parser) ≡ initialiser_read 256 l.unit (blocks_of l.fn.parser) (rest_of l.fn.parser)
