use Rattle.std.proofs.Common.{◌≡◌, ◌++◌, drop}
use Rattle.c65_optflow.specs.Unused.{used_lines}
use Rattle.c65_optflow.proofs.drop.used.Given as goal

abbrev pub invariant-loop-at : goal.invariant-loop-at
invariant-loop-at l = l.used.items ++ used_lines l.lines (drop l.at l.lines) ≡ used_lines l.lines l.lines
