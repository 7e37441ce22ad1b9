use Rattle.std.proofs.Common.{◌≡◌, drop}
use Rattle.c65_init_cells.specs.Sinks.{sink_of, with_chars}
use Rattle.c65_init_cells.proofs.texts.put_text.Given as goal

-- what is left goes on from here
abbrev pub invariant-loop-byte : goal.invariant-loop-byte
invariant-loop-byte l = with_chars (sink_of l.sink) l.at l.kind (drop l.byte-index l.chars) ≡ with_chars (sink_of l.initial.sink) l.initial.at l.kind l.chars
