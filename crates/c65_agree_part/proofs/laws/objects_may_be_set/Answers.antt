use Rattle.c65_agree_part.proofs.Homes.{objects_may_be_set}
use Rattle.c65_agree_part.proofs.laws.objects_may_be_set.Goals as goal

pub returns : goal.returns
returns c = objects_may_be_set
