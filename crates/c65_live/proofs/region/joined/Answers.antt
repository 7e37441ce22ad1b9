use Rattle.std.proofs.Common.{◌∙◌}
use Rattle.c65_live.proofs.Swept.{joined_from}
use Rattle.c65_live.proofs.region.joined.Goals as goal

pub returns : goal.returns
returns c = c.joined_of.ensures ∙ joined_from c.args.lines.now c.args.out c.args.live.now c.args.places.now c.args.at c.args.next _ _ _ _ c.requires.line c.requires.places c.requires.next c.left.ensures c.straight.ensures c.before_to-jumped.ensures
