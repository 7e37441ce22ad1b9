use Rattle.std.proofs.Common.{◌≡◌, [], drop}
use Rattle.c65_gendata.specs.Cells.{with_cells}
use Rattle.c65_gendata.proofs.cells.cells_of.Given as goal

abbrev pub invariant-loop-cell : goal.invariant-loop-cell
invariant-loop-cell l = with_cells l.numbers (drop l.cell-index l.cells) l.items.items ≡ with_cells l.numbers l.cells []
