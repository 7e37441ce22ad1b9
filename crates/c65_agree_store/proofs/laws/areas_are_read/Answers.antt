use Rattle.c65_agree_store.proofs.Areas.{areas_are_read}
use Rattle.c65_agree_store.proofs.laws.areas_are_read.Goals as goal

pub returns : goal.returns
returns c = areas_are_read
