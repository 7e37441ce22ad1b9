use Rattle.c65_gen_law_names.proofs.Named.{expressions_name_their_items}
use Rattle.c65_gen_law_names.proofs.laws.expressions_name_their_items.Goals as goal

pub returns : goal.returns
returns c = expressions_name_their_items
