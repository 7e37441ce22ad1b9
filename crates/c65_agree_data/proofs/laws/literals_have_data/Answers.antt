use Rattle.c65_agree_data.proofs.Listed.{literals_have_data}
use Rattle.c65_agree_data.proofs.laws.literals_have_data.Goals as goal

pub returns : goal.returns
returns c = literals_have_data
