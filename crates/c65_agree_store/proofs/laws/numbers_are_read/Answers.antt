use Rattle.c65_agree_store.proofs.Read.{numbers_are_read}
use Rattle.c65_agree_store.proofs.laws.numbers_are_read.Goals as goal

pub returns : goal.returns
returns c = numbers_are_read
