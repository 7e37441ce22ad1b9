use Rattle.std.proofs.Common.{◌≡◌, ◌++◌, drop}
use Rattle.c65_link.specs.Bytes.{cells_bytes}
use Rattle.c65_link.proofs.bytes.put_cells.Given as goal

abbrev pub invariant-loop-cell : goal.invariant-loop-cell
invariant-loop-cell l = l.out.items ++ cells_bytes l.symbols (drop l.cell-index l.cells) ≡ l.initial.out.items ++ cells_bytes l.symbols l.cells
