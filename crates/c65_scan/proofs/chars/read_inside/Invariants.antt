use Rattle.std.proofs.Common.{◌≡◌, ◌++◌, drop, option_map}
use Rattle.c65_scan.specs.declared.chars.Reading.TheVariants.{Plain}
use Rattle.c65_scan.specs.Chars.{chars_from}
use Rattle.c65_scan.proofs.chars.read_inside.Given as goal

abbrev pub invariant-loop-byte : goal.invariant-loop-byte
invariant-loop-byte l = option_map (λ xs. l.chars.items ++ xs) (chars_from l.reading (drop l.byte-index l.text)) ≡ chars_from Plain l.text
