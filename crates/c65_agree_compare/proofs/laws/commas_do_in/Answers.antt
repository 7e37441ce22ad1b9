use Rattle.c65_agree_compare.proofs.Choices.{commas_do_in}
use Rattle.c65_agree_compare.proofs.laws.commas_do_in.Goals as goal

pub returns : goal.returns
returns c = commas_do_in
