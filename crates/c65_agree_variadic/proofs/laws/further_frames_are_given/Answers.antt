use Rattle.c65_agree_variadic.proofs.Given.{further_frames_are_given}
use Rattle.c65_agree_variadic.proofs.laws.further_frames_are_given.Goals as goal

pub returns : goal.returns
returns c = further_frames_are_given
