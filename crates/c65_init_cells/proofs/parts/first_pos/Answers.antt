use Rattle.c65_init_cells.proofs.ItemLaws.{first_is}
use Rattle.c65_init_cells.proofs.parts.first_pos.Goals as goal

pub returns-in-len1-up : goal.returns-in-len1-up
returns-in-len1-up c = first_is c.args.items.now c.item-item.result c.in-len1-up.len_at_least c.item-item.is
