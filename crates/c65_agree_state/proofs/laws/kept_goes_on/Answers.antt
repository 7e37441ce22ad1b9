use Rattle.c65_agree_state.proofs.Parts.{kept_goes_on}
use Rattle.c65_agree_state.proofs.laws.kept_goes_on.Goals as goal

pub returns : goal.returns
returns c = kept_goes_on
