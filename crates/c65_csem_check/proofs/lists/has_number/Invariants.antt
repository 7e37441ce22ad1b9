use Rattle.std.proofs.Common.{◌≡◌, ◌≤◌, drop, length, map, nat_le}
use Rattle.c65_csem_check.specs.Statements as b
use Rattle.c65_csem_check.proofs.lists.has_number.Given as goal

abbrev pub invariant-loop-other : goal.invariant-loop-other
invariant-loop-other l = b.has_number (drop l.other-index l.numbers) l.number ≡ b.has_number l.numbers l.number
