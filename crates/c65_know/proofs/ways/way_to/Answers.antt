use Rattle.std.proofs.Common.{◌∙◌}
use Rattle.c65_know.proofs.Passes.{way_before}
use Rattle.c65_know.proofs.ways.way_to.Goals as goal

pub returns : goal.returns
returns c = c.after_line.ensures ∙ way_before _ _ _ _ _ _ c.if-at-eq0.false c.requires.place c.requires.lengths
