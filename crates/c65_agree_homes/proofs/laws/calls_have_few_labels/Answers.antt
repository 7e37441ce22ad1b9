use Rattle.c65_agree_homes.proofs.Lines.{few}
use Rattle.c65_agree_homes.proofs.laws.calls_have_few_labels.Goals as goal

pub returns : goal.returns
returns c = few
