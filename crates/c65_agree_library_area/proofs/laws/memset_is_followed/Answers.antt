use Rattle.c65_agree_library_area.proofs.Memset.{memset_is_followed}
use Rattle.c65_agree_library_area.proofs.laws.memset_is_followed.Goals as goal

pub returns : goal.returns
returns c = memset_is_followed
