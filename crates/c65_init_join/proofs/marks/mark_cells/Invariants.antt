use Rattle.std.proofs.Common.{◌≡◌, drop}
use Rattle.c65_init_join.specs.Uses.{cells_named, marks_of}
use Rattle.c65_init_join.proofs.marks.mark_cells.Given as goal

abbrev pub invariant-loop-cell : goal.invariant-loop-cell
invariant-loop-cell l = cells_named (drop l.cell-index l.cells) (marks_of l.marks) ≡ cells_named l.cells (marks_of l.fn.marks)
