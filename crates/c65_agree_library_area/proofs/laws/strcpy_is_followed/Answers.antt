use Rattle.c65_agree_library_area.proofs.Strcpy.{strcpy_is_followed}
use Rattle.c65_agree_library_area.proofs.laws.strcpy_is_followed.Goals as goal

pub returns : goal.returns
returns c = strcpy_is_followed
