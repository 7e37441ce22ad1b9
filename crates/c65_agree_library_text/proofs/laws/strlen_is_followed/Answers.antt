use Rattle.c65_agree_library_text.proofs.Strlen.{strlen_is_followed}
use Rattle.c65_agree_library_text.proofs.laws.strlen_is_followed.Goals as goal

pub returns : goal.returns
returns c = strlen_is_followed
