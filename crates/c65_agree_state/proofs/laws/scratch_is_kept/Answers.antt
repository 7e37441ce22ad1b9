use Rattle.c65_agree_state.proofs.Leaves.{scratch_is_kept}
use Rattle.c65_agree_state.proofs.laws.scratch_is_kept.Goals as goal

pub returns : goal.returns
returns c = scratch_is_kept
