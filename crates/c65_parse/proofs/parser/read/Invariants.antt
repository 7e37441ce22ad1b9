use Rattle.std.proofs.Common.{◌≡◌, drop, []}
use Rattle.c65_parse_names.specs.Blocks.{scope_of}
use Rattle.c65_parse.specs.Machine.{run}
use Rattle.c65_parse.specs.Views.{stack_of, held_of}
use Rattle.c65_parse.proofs.parser.read.Given as goal

abbrev pub invariant-loop-i : goal.invariant-loop-i
invariant-loop-i l = run l.limit l.least (scope_of l.scope) (stack_of l.reading.frames.items) (held_of l.reading.held) (drop l.i l.tokens) ≡ run l.limit l.least (scope_of l.fn.scope) [] (held_of l.fn.held) l.tokens
