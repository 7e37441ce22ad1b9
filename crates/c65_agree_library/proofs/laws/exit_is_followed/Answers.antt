use Rattle.c65_agree_library.proofs.Exit.{exit_is_followed}
use Rattle.c65_agree_library.proofs.laws.exit_is_followed.Goals as goal

pub returns : goal.returns
returns c = exit_is_followed
