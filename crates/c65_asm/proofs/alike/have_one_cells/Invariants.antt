use Rattle.std.proofs.Common.{length}
use Rattle.c65_asm.specs.Alike.{HaveOneCells}
use Rattle.c65_asm.proofs.alike.have_one_cells.Given as goal

abbrev pub invariant-loop-cell : goal.invariant-loop-cell
invariant-loop-cell l = HaveOneCells l.ours l.rest l.theirs l.beside → HaveOneCells l.ours l.cells l.theirs l.others

abbrev pub decreases-loop-cell : goal.decreases-loop-cell
decreases-loop-cell l = length l.rest
