use Rattle.std.proofs.Common.{◌≡◌, ◌≤◌, drop, length, map, nat_le}
use Rattle.c65_csem_check.specs.Statements as b
use Rattle.c65_csem_check.proofs.lists.has_value.Given as goal

abbrev pub invariant-loop-other : goal.invariant-loop-other
invariant-loop-other l = b.has_value (drop l.other-index l.values) l.value ≡ b.has_value l.values l.value
