use Rattle.c65_rtl_law_walks.proofs.Calls.{calls_come_back}
use Rattle.c65_rtl_law_walks.proofs.laws.calls_come_back.Goals as goal

pub returns : goal.returns
returns c = calls_come_back
