use Rattle.c65_agree_located.proofs.Symbols.{functions_are_low}
use Rattle.c65_agree_located.proofs.laws.functions_are_low.Goals as goal

pub returns : goal.returns
returns c = functions_are_low
