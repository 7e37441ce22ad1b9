use Rattle.std.proofs.Common.{◌≡◌, ◌++◌, drop}
use Rattle.c65_code.specs.Literals.{bytes_of}
use Rattle.c65_code.proofs.gather.cell_bytes.Given as goal

abbrev pub invariant-loop-cell : goal.invariant-loop-cell
invariant-loop-cell l = l.bytes.items ++ bytes_of (drop l.cell-index l.cells) ≡ bytes_of l.cells
