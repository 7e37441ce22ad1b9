use Rattle.std.proofs.Common.{◌≡◌, drop}
use Rattle.c65_scan.specs.Numbers.{float_from, is_float}
use Rattle.c65_scan.proofs.float.is_float.Given as goal

abbrev pub invariant-loop-byte : goal.invariant-loop-byte
invariant-loop-byte l = float_from l.part (drop l.byte-index l.text) ≡ is_float l.text
