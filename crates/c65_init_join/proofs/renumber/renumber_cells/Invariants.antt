use Rattle.std.proofs.Common.{◌≡◌, ◌++◌, map, take, drop}
use Rattle.c65_init_join.specs.Numbers.{numbers_of}
use Rattle.c65_init_join.specs.Renumbered.{renumbered_cell}
use Rattle.c65_init_join.proofs.renumber.renumber_cells.Given as goal

abbrev pub invariant-loop-i : goal.invariant-loop-i
invariant-loop-i l = l.cells.items ≡ map (renumbered_cell (numbers_of l.numbers)) (take l.i l.fn.cells.items) ++ drop l.i l.fn.cells.items
