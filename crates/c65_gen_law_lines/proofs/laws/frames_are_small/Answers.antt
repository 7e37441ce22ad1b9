use Rattle.c65_gen_law_lines.proofs.FrameLaws.{frames_are_small}
use Rattle.c65_gen_law_lines.proofs.laws.frames_are_small.Goals as goal

pub returns : goal.returns
returns c = frames_are_small
