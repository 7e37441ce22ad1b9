use Rattle.std.proofs.Common.{◌≡◌, ◌≤◌, drop, length, map, nat_le}
use Rattle.c65_csem_check.specs.Statements as b
use Rattle.c65_csem_check.proofs.lists.are_distinct.Given as goal

abbrev pub invariant-loop-i : goal.invariant-loop-i
invariant-loop-i l = b.are_distinct (drop l.i l.numbers) ≡ b.are_distinct l.numbers
