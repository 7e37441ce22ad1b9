use Rattle.c65_agree_frame.proofs.Banks.{banks_are_saved}
use Rattle.c65_agree_frame.proofs.laws.banks_are_saved.Goals as goal

pub returns : goal.returns
returns c = banks_are_saved
