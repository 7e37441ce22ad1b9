use Rattle.std.proofs.Common.{ℕ, List, Result, length}
use Rattle.c65_base.specs.declared.refusal.Refusal.{Refusal}
use Rattle.c65_macro.specs.Table.{Table}
use Rattle.c65_ppdir.specs.CommandLine.{all_defined}
use Rattle.c65_ppdir.proofs.command.define_all.Given as goal

abbrev pub invariant-loop-item : goal.invariant-loop-item
invariant-loop-item l = (z : Result (Table × List (List ℕ)) Refusal) → all_defined l.number l.rest l.macros l.names z → all_defined 0 l.defines l.fn.macros l.fn.names z

abbrev pub decreases-loop-item : goal.decreases-loop-item
decreases-loop-item l = length l.rest
