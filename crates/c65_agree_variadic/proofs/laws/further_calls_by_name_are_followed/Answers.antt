use Rattle.c65_agree_variadic.proofs.Called.{further_calls_by_name_are_followed}
use Rattle.c65_agree_variadic.proofs.laws.further_calls_by_name_are_followed.Goals as goal

pub returns : goal.returns
returns c = further_calls_by_name_are_followed
