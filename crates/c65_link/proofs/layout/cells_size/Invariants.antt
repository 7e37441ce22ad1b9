use Rattle.std.proofs.Common.{◌≡◌, drop}
use Rattle.c65_link.specs.Layouts.{cells_end}
use Rattle.c65_link.proofs.layout.cells_size.Given as goal

abbrev pub invariant-loop-cell : goal.invariant-loop-cell
invariant-loop-cell l = cells_end l.size (drop l.cell-index l.cells) ≡ cells_end 0 l.cells
