use Rattle.c65_agree_load.proofs.Fetched.{fetches_are_followed}
use Rattle.c65_agree_load.proofs.laws.fetches_are_followed.Goals as goal

pub returns : goal.returns
returns c = fetches_are_followed
