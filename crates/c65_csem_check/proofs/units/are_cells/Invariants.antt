use Rattle.std.proofs.Common.{◌≡◌, ◌≤◌, drop, length, map, nat_le}
use Rattle.c65_csem.specs.Views.{typed_of, nodes_of, object_of, func_of, unit_of}
use Rattle.c65_csem_check.specs.Units as b
use Rattle.c65_csem_check.proofs.units.are_cells.Given as goal

abbrev pub invariant-loop-cell : goal.invariant-loop-cell
invariant-loop-cell l = b.are_cells (unit_of l.parts) (drop l.cell-index l.cells) ≡ b.are_cells (unit_of l.parts) l.cells
