use Rattle.std.proofs.Common.{◌≡◌, ◌+◌, ◌≤◌, drop}
use Rattle.std.specs.Prelude.{min, max}
use Rattle.c65_csem.specs.Views.{nodes_of}
use Rattle.c65_csem_need.specs.Needs.{need_of_all}
use Rattle.c65_csem_need.proofs.needs.+need.Given as goal

abbrev pub invariant-need_of_all-loop-e : goal.invariant-need_of_all-loop-e
invariant-need_of_all-loop-e l = record {
  waits : l.waiting ≡ min l.e-index 4294967295;
  reaches : l.waiting ≤ l.most;
  so_far : max l.most (min (l.e-index + need_of_all (nodes_of (drop l.e-index l.es))) 4294967295) ≡ min (need_of_all (nodes_of l.es)) 4294967295;
}
