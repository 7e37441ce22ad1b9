use Rattle.c65_agree_data.proofs.Placed.{objects_begin}
use Rattle.c65_agree_data.proofs.laws.objects_begin.Goals as goal

pub returns : goal.returns
returns c = objects_begin
