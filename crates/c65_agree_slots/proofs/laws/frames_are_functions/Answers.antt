use Rattle.c65_agree_slots.proofs.Functions.{frames_are_functions}
use Rattle.c65_agree_slots.proofs.laws.frames_are_functions.Goals as goal

pub returns : goal.returns
returns c = frames_are_functions
