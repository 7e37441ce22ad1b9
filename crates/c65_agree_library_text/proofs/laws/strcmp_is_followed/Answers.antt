use Rattle.c65_agree_library_text.proofs.Strcmp.{strcmp_is_followed}
use Rattle.c65_agree_library_text.proofs.laws.strcmp_is_followed.Goals as goal

pub returns : goal.returns
returns c = strcmp_is_followed
