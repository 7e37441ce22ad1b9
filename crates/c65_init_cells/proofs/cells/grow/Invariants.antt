use Rattle.std.proofs.Common.{◌≡◌, ◌-◌, length}
use Rattle.c65_init_cells.specs.Cells.{grown}
use Rattle.c65_init_cells.proofs.cells.grow.Given as goal

abbrev pub invariant-loop-cells : goal.invariant-loop-cells
invariant-loop-cells l = grown l.cells.items l.size ≡ grown l.fn.cells.items l.size

abbrev pub decreases-loop-cells : goal.decreases-loop-cells
decreases-loop-cells l = l.size - length l.cells.items
