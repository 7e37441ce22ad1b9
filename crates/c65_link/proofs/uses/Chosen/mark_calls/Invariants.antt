use Rattle.std.proofs.Common.{◌≡◌, drop}
use Rattle.c65_link.specs.Runtime.{with_calls}
use Rattle.c65_link.proofs.uses.Chosen.mark_calls.Given as goal

abbrev pub invariant-loop-line : goal.invariant-loop-line
invariant-loop-line l = record l.self { marks = with_calls l.self.marks (drop l.line-index l.lines) } ≡ record l.initial.self { marks = with_calls l.initial.self.marks l.lines }
