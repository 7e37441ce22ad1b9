use Rattle.c65_agree_library_area.proofs.Memcpy.{memcpy_is_followed}
use Rattle.c65_agree_library_area.proofs.laws.memcpy_is_followed.Goals as goal

pub returns : goal.returns
returns c = memcpy_is_followed
