use Rattle.c65_agree_between.proofs.Between.{keeping_goes_on}
use Rattle.c65_agree_between.proofs.laws.keeping_goes_on.Goals as goal

pub returns : goal.returns
returns c = keeping_goes_on
