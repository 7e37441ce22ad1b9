use Rattle.c65_agree_slots.proofs.Slots.{frames_have_slots}
use Rattle.c65_agree_slots.proofs.laws.frames_have_slots.Goals as goal

pub returns : goal.returns
returns c = frames_have_slots
