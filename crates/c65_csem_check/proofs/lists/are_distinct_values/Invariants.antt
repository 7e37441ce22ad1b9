use Rattle.std.proofs.Common.{◌≡◌, ◌≤◌, drop, length, map, nat_le}
use Rattle.c65_csem_check.specs.Statements as b
use Rattle.c65_csem_check.proofs.lists.are_distinct_values.Given as goal

abbrev pub invariant-loop-i : goal.invariant-loop-i
invariant-loop-i l = b.are_distinct_values (drop l.i l.values) ≡ b.are_distinct_values l.values
