use Rattle.c65_agree_invoke.proofs.Results.{scalars_come_back}
use Rattle.c65_agree_invoke.proofs.laws.scalars_come_back.Goals as goal

pub returns : goal.returns
returns c = scalars_come_back
