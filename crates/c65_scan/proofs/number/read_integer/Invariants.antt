use Rattle.std.proofs.Common.{◌≡◌, ◌≤◌, drop}
use Rattle.c65_scan.specs.Numbers.{integer_from, capped}
use Rattle.c65_scan.proofs.number.read_integer.Given as goal

abbrev pub invariant-loop-at : goal.invariant-loop-at
invariant-loop-at l = record { bounded : l.value ≤ 4294967296; same : capped (integer_from l.base l.value (drop l.at l.text)) ≡ capped (integer_from l.base 0 l.text) }
