use Rattle.std.proofs.Common.{◌∙◌}
use Rattle.c65_init_join.proofs.CheckLaws.{and_same}
use Rattle.c65_init_join.proofs.agree.fits_all.Goals as goal

pub returns : goal.returns
returns c = c.both.ensures ∙ and_same c.in_ok-meets.ensures c.in_ok-of_library.ensures
