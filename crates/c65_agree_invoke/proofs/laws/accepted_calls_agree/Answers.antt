use Rattle.c65_agree_invoke.proofs.Accepted.{accepted_calls_agree}
use Rattle.c65_agree_invoke.proofs.laws.accepted_calls_agree.Goals as goal

pub returns : goal.returns
returns c = accepted_calls_agree
