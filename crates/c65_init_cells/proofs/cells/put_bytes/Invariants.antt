use Rattle.std.proofs.Common.{◌≡◌, take}
use Rattle.c65_init_cells.specs.Cells.{written}
use Rattle.c65_init_cells.proofs.cells.put_bytes.Given as goal

abbrev pub invariant-loop-i : goal.invariant-loop-i
invariant-loop-i l = l.cells.items ≡ written l.fn.cells.items l.from (take l.i l.bytes)
