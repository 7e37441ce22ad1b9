use Rattle.c65_agree_slots.proofs.Frames.{frames_take_parameters}
use Rattle.c65_agree_slots.proofs.laws.frames_take_parameters.Goals as goal

pub returns : goal.returns
returns c = frames_take_parameters
