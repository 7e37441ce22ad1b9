use Rattle.c65_agree_numbers.proofs.Bytes.{numbers_are_laid}
use Rattle.c65_agree_numbers.proofs.laws.numbers_are_laid.Goals as goal

pub returns : goal.returns
returns c = numbers_are_laid
