use Rattle.std.proofs.Common.{◌≡◌, drop}
use Rattle.std.specs.List.{list_all}
use Rattle.c65_gendata.specs.Cells.{is_zero}
use Rattle.c65_gendata.proofs.cells.are_zero.Given as goal

abbrev pub invariant-loop-cell : goal.invariant-loop-cell
invariant-loop-cell l = list_all is_zero (drop l.cell-index l.cells) ≡ list_all is_zero l.cells
