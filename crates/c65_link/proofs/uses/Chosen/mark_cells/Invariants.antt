use Rattle.std.proofs.Common.{◌≡◌, drop}
use Rattle.c65_link.specs.Symbols.{with_cell_uses}
use Rattle.c65_link.proofs.uses.Chosen.mark_cells.Given as goal

abbrev pub invariant-loop-cell : goal.invariant-loop-cell
invariant-loop-cell l = record l.self { marks = with_cell_uses l.targets l.self.marks (drop l.cell-index l.cells) } ≡ record l.initial.self { marks = with_cell_uses l.targets l.initial.self.marks l.cells }
