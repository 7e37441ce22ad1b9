use Rattle.c65_agree_store.proofs.Keep.{stores_go_on_standing}
use Rattle.c65_agree_store.proofs.laws.stores_go_on_standing.Goals as goal

pub returns : goal.returns
returns c = stores_go_on_standing
