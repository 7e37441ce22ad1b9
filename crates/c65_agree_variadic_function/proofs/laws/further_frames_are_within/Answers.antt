use Rattle.c65_agree_variadic_function.proofs.Functions.{further_frames_are_within}
use Rattle.c65_agree_variadic_function.proofs.laws.further_frames_are_within.Goals as goal

pub returns : goal.returns
returns c = further_frames_are_within
