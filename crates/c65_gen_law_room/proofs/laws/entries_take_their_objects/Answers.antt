use Rattle.c65_gen_law_room.proofs.Entries.{entries_take_their_objects}
use Rattle.c65_gen_law_room.proofs.laws.entries_take_their_objects.Goals as goal

pub returns : goal.returns
returns c = entries_take_their_objects
