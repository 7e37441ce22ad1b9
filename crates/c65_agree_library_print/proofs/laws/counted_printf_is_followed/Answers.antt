use Rattle.c65_agree_library_print.proofs.Counted.{counted_printf_is_followed}
use Rattle.c65_agree_library_print.proofs.laws.counted_printf_is_followed.Goals as goal

pub returns : goal.returns
returns c = counted_printf_is_followed
