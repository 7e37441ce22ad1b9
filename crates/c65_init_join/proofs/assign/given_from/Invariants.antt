use Rattle.std.proofs.Common.{◌≡◌, ◌++◌, drop}
use Rattle.c65_init_join.specs.Numbers.{count_from, given_from}
use Rattle.c65_init_join.proofs.assign.given_from.Given as goal

abbrev pub invariant-loop-is_kept : goal.invariant-loop-is_kept
invariant-loop-is_kept l = record {
  given : l.given.items ++ given_from l.next (drop l.is_kept-index l.kept) ≡ given_from l.first l.kept;
  next : count_from l.next (drop l.is_kept-index l.kept) ≡ count_from l.first l.kept;
}
