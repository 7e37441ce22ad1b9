use Rattle.c65_agree_library.proofs.Putchar.{putchar_is_followed}
use Rattle.c65_agree_library.proofs.laws.putchar_is_followed.Goals as goal

pub returns : goal.returns
returns c = putchar_is_followed
