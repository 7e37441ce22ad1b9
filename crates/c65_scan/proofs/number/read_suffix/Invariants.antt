use Rattle.std.proofs.Common.{◌≡◌, drop}
use Rattle.c65_scan.specs.declared.number.Suffix.TheVariants.{Plain}
use Rattle.c65_scan.specs.Numbers.{suffix_from}
use Rattle.c65_scan.proofs.number.read_suffix.Given as goal

abbrev pub invariant-loop-byte : goal.invariant-loop-byte
invariant-loop-byte l = suffix_from l.suffix (drop l.byte-index l.text) ≡ suffix_from Plain l.text
