use Rattle.c65_gen_law_size.proofs.Scoped.{scoped_programs_fill_their_objects}
use Rattle.c65_gen_law_size.proofs.laws.scoped_programs_fill_their_objects.Goals as goal

pub returns : goal.returns
returns c = scoped_programs_fill_their_objects
