use Rattle.c65_agree_state.proofs.Scratch.{scratch_changes}
use Rattle.c65_agree_state.proofs.laws.scratch_changes.Goals as goal

pub returns : goal.returns
returns c = scratch_changes
