use Rattle.c65_agree_homes.proofs.Begins.{objects_may_begin}
use Rattle.c65_agree_homes.proofs.laws.objects_may_begin.Goals as goal

pub returns : goal.returns
returns c = objects_may_begin
