use Rattle.c65_agree_end.proofs.Main.{main_is_followed}
use Rattle.c65_agree_end.proofs.laws.main_is_followed.Goals as goal

pub returns : goal.returns
returns c = main_is_followed
