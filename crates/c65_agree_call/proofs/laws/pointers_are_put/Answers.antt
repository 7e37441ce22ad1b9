use Rattle.c65_agree_call.proofs.Put.{pointers_are_put}
use Rattle.c65_agree_call.proofs.laws.pointers_are_put.Goals as goal

pub returns : goal.returns
returns c = pointers_are_put
