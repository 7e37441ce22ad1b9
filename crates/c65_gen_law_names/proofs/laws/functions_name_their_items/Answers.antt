use Rattle.c65_gen_law_names.proofs.Named.{functions_name_their_items}
use Rattle.c65_gen_law_names.proofs.laws.functions_name_their_items.Goals as goal

pub returns : goal.returns
returns c = functions_name_their_items
