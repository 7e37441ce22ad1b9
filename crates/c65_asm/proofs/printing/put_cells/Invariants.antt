use Rattle.std.proofs.Common.{◌≡◌, ◌++◌, ◌≤◌, drop}
use Rattle.c65_asm.specs.Text.{cells_text}
use Rattle.c65_asm.proofs.printing.put_cells.Given as goal

abbrev pub invariant-loop-cell : goal.invariant-loop-cell
invariant-loop-cell l = (l.count ≤ 16) × (l.out.items ++ cells_text l.symbols l.count (drop l.cell-index l.cells) ≡ l.initial.out.items ++ cells_text l.symbols 0 l.cells)
