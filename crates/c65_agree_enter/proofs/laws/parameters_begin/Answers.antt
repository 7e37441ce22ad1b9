use Rattle.c65_agree_enter.proofs.Params.{parameters_begin}
use Rattle.c65_agree_enter.proofs.laws.parameters_begin.Goals as goal

pub returns : goal.returns
returns c = parameters_begin
