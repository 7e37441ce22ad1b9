use Rattle.c65_agree_library.proofs.Getchar.{getchar_is_followed}
use Rattle.c65_agree_library.proofs.laws.getchar_is_followed.Goals as goal

pub returns : goal.returns
returns c = getchar_is_followed
