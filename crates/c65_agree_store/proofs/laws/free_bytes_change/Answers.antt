use Rattle.c65_agree_store.proofs.Keep.{free_bytes_change}
use Rattle.c65_agree_store.proofs.laws.free_bytes_change.Goals as goal

pub returns : goal.returns
returns c = free_bytes_change
