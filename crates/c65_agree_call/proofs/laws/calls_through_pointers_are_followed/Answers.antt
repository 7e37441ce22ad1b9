use Rattle.c65_agree_call.proofs.Called.{calls_through_pointers_are_followed}
use Rattle.c65_agree_call.proofs.laws.calls_through_pointers_are_followed.Goals as goal

pub returns : goal.returns
returns c = calls_through_pointers_are_followed
