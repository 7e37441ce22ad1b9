use Rattle.c65_gen_law_size.proofs.Owned.{own_objects_have_homes}
use Rattle.c65_gen_law_size.proofs.laws.own_objects_have_homes.Goals as goal

pub returns : goal.returns
returns c = own_objects_have_homes
