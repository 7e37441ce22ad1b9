use Rattle.std.proofs.Common.{◌∙◌, set, ap, arith}
use Rattle.std.proofs.lemmas.List.Edits.{map_over_more}
use Rattle.c65_csem.specs.declared.items.Cell.{Cell}
use Rattle.c65_init_join.specs.Numbers.{numbers_of}
use Rattle.c65_init_join.specs.Renumbered.{renumbered_cell}
use Rattle.c65_init_join.proofs.renumber.renumber_cells.Goals as goal

pub loop-i-preserved : goal.loop-i-preserved
loop-i-preserved c =
    ap (λ (z : Cell). set c.loop-i.cells.items c.loop-i.i z) c.in_ok-found.ensures
    ∙ map_over_more (renumbered_cell (numbers_of c.args.numbers.now)) c.args.cells.now.items c.loop-i.cells.items c.loop-i.i c.index.result.now (omega (arith, c.loop-i-test.true, c.len-i-end.ensures, c.args.cells.now.ok.0)) c.loop-i.invariant c.index.ensures
