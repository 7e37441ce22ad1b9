use Rattle.std.proofs.Common.{◌≡◌, drop, map, ◌++◌}
use Rattle.c65_csem_plain.specs.Tests
use Rattle.c65_csem_plain.proofs.initial.are_byte_cells.Given as goal

abbrev pub invariant-loop-cell : goal.invariant-loop-cell
invariant-loop-cell l = Tests.are_byte_cells (drop l.cell-index l.cells) ≡ Tests.are_byte_cells l.cells
