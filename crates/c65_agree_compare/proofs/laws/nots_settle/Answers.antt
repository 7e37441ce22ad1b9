use Rattle.c65_agree_compare.proofs.Branches.{nots_settle}
use Rattle.c65_agree_compare.proofs.laws.nots_settle.Goals as goal

pub returns : goal.returns
returns c = nots_settle
