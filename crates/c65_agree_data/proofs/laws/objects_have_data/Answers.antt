use Rattle.c65_agree_data.proofs.Listed.{objects_have_data}
use Rattle.c65_agree_data.proofs.laws.objects_have_data.Goals as goal

pub returns : goal.returns
returns c = objects_have_data
