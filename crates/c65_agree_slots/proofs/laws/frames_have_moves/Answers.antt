use Rattle.c65_agree_slots.proofs.Frames.{frames_have_moves}
use Rattle.c65_agree_slots.proofs.laws.frames_have_moves.Goals as goal

pub returns : goal.returns
returns c = frames_have_moves
