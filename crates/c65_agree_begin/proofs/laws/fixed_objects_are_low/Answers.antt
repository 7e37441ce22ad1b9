use Rattle.c65_agree_begin.proofs.Fixed.{fixed_objects_are_low}
use Rattle.c65_agree_begin.proofs.laws.fixed_objects_are_low.Goals as goal

pub returns : goal.returns
returns c = fixed_objects_are_low
