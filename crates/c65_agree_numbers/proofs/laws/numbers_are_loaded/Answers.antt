use Rattle.c65_agree_numbers.proofs.Bytes.{numbers_are_loaded}
use Rattle.c65_agree_numbers.proofs.laws.numbers_are_loaded.Goals as goal

pub returns : goal.returns
returns c = numbers_are_loaded
