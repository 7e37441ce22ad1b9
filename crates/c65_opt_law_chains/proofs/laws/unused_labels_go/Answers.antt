use Rattle.c65_opt_law_chains.proofs.Never.{unreached_follow}
use Rattle.c65_opt_law_chains.proofs.Unused.{unused_followed}
use Rattle.c65_opt_law_chains.proofs.laws.unused_labels_go.Goals as goal

pub returns : goal.returns
returns c = unused_followed unreached_follow
