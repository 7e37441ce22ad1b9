use Rattle.c65_agree_library_call.proofs.Called.{printf_calls_are_followed}
use Rattle.c65_agree_library_call.proofs.laws.printf_calls_are_followed.Goals as goal

pub returns : goal.returns
returns c = printf_calls_are_followed
