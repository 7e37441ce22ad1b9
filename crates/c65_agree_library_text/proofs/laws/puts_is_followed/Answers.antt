use Rattle.c65_agree_library_text.proofs.Strlen.{puts_is_followed}
use Rattle.c65_agree_library_text.proofs.laws.puts_is_followed.Goals as goal

pub returns : goal.returns
returns c = puts_is_followed
