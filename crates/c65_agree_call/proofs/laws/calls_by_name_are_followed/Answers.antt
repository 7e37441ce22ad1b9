use Rattle.c65_agree_call.proofs.Called.{calls_by_name_are_followed}
use Rattle.c65_agree_call.proofs.laws.calls_by_name_are_followed.Goals as goal

pub returns : goal.returns
returns c = calls_by_name_are_followed
