use Rattle.c65_agree_data.proofs.Placed.{literals_begin}
use Rattle.c65_agree_data.proofs.laws.literals_begin.Goals as goal

pub returns : goal.returns
returns c = literals_begin
