use Rattle.c65_agree_state.proofs.Nodes.{commas_do}
use Rattle.c65_agree_state.proofs.laws.commas_do.Goals as goal

pub returns : goal.returns
returns c = commas_do
