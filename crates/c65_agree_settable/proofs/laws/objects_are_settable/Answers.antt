use Rattle.c65_agree_settable.proofs.Settable.{objects_are_settable}
use Rattle.c65_agree_settable.proofs.laws.objects_are_settable.Goals as goal

pub returns : goal.returns
returns c = objects_are_settable
