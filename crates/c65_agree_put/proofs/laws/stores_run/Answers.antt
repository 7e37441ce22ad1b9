use Rattle.c65_agree_put.proofs.Stores.{stores_run}
use Rattle.c65_agree_put.proofs.laws.stores_run.Goals as goal

pub returns : goal.returns
returns c = stores_run
