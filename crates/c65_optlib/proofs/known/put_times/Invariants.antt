use Rattle.std.proofs.Common.{◌≡◌, ◌++◌}
use Rattle.c65_pass.specs.KnownCalls.{once_and}
use Rattle.c65_optlib.proofs.known.put_times.Given as goal

abbrev pub invariant-loop-again : goal.invariant-loop-again
invariant-loop-again l = l.lines.items ≡ l.fn.lines.items ++ once_and l.fn.step l.again
