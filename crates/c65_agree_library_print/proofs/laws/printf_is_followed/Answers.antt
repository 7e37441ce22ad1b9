use Rattle.c65_agree_library_print.proofs.Print.{printf_is_followed}
use Rattle.c65_agree_library_print.proofs.laws.printf_is_followed.Goals as goal

pub returns : goal.returns
returns c = printf_is_followed
