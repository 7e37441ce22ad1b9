use Rattle.std.proofs.Common.{◌∙◌}
use Rattle.c65_asm.proofs.TextLaws.{cells_more}
use Rattle.c65_asm.proofs.printing.put_cells.Goals as goal

pub loop-cell-preserved : goal.loop-cell-preserved
loop-cell-preserved c = (
  c.after_cell-count.ensures.most,
  cells_more c.args.symbols.now c.loop-cell.out.items c.put_cell.new.out.items c.args.cells.now c.loop-cell.count c.after_cell-count.result c.loop-cell.cell-index _ c.loop-cell-test.true c.in_ok-put_cell.ensures c.after_cell-count.ensures.value ∙ c.loop-cell.invariant.1,
)
