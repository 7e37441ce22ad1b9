use Rattle.std.proofs.Common.{◌≡◌, drop}
use Rattle.c65_link.specs.Symbols.{missing_in_cells}
use Rattle.c65_link.proofs.missing.in_cells.Given as goal

abbrev pub invariant-loop-cell : goal.invariant-loop-cell
invariant-loop-cell l = missing_in_cells l.targets (drop l.cell-index l.cells) ≡ missing_in_cells l.targets l.cells
