use Rattle.c65_agree_library_call.proofs.Called.{library_calls_are_followed}
use Rattle.c65_agree_library_call.proofs.laws.library_calls_are_followed.Goals as goal

pub returns : goal.returns
returns c = library_calls_are_followed
