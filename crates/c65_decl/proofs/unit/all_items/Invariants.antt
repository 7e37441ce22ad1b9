use Rattle.std.proofs.Common.{◌≡◌, drop}
use Rattle.c65_parse.specs.Reading.{rest_of, blocks_of}
use Rattle.c65_decl.specs.Units.{items_of, items_run, items_read}
use Rattle.c65_decl.proofs.unit.all_items.Given as goal

abbrev pub invariant-loop-step : goal.invariant-loop-step
invariant-loop-step l = items_run 256 l.unit (drop l._step-index l.unit) (items_of l.items.items) (blocks_of l.parser) (rest_of l.parser) ≡ items_read 256 l.unit (blocks_of l.fn.parser) (rest_of l.fn.parser)
