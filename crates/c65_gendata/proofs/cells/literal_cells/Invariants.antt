use Rattle.std.proofs.Common.{◌≡◌, ◌++◌, drop, map}
use Rattle.c65_code.specs.declared.code.DataCell.TheVariants.{Byte}
use Rattle.c65_gendata.proofs.cells.literal_cells.Given as goal

abbrev pub invariant-loop-byte : goal.invariant-loop-byte
invariant-loop-byte l = l.items.items ++ map (λ b. Byte b) (drop l.byte-index l.byte-items) ≡ map (λ b. Byte b) l.byte-items
