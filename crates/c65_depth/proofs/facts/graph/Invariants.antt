use Rattle.std.proofs.Common.{◌≡◌, ◌++◌, drop, map}
use Rattle.c65_csem.specs.Views.{func_of, unit_of}
use Rattle.c65_depth.specs.Facts.{graph_of, graph}
use Rattle.c65_depth.proofs.facts.graph.Given as goal

abbrev pub invariant-loop-func : goal.invariant-loop-func
invariant-loop-func l = l.graph.items ++ graph_of (unit_of l.parts) (map func_of (drop l.func-index l.parts.funcs.items)) ≡ graph (unit_of l.parts)
