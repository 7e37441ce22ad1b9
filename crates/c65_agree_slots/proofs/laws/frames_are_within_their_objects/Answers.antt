use Rattle.c65_agree_slots.proofs.Functions.{frames_are_within_their_objects}
use Rattle.c65_agree_slots.proofs.laws.frames_are_within_their_objects.Goals as goal

pub returns : goal.returns
returns c = frames_are_within_their_objects
