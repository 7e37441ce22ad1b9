use Rattle.std.proofs.Common.{◌≡◌, ℕ, List, ◌++◌, map, length, option_map}
use Rattle.c65_code.specs.declared.code.DataCell.TheVariants.{Byte}
use Rattle.c65_asm.specs.Reading.{bytes_in}
use Rattle.c65_asm.proofs.reader.put_bytes.Given as goal

abbrev pub decreases-loop-rest : goal.decreases-loop-rest
decreases-loop-rest l = length l.rest

abbrev pub invariant-loop-rest : goal.invariant-loop-rest
invariant-loop-rest l = (before : List ℕ) × (l.cells.items ≡ l.initial.cells.items ++ map (λ v. Byte v) before) × (bytes_in l.text ≡ option_map (λ vs. before ++ vs) (bytes_in l.rest))
