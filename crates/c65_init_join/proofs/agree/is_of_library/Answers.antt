use Rattle.std.proofs.Common.{◌∙◌}
use Rattle.c65_init_join.proofs.CheckLaws.{or_same}
use Rattle.c65_init_join.proofs.agree.is_of_library.Goals as goal

pub returns : goal.returns
returns c = c.either.ensures ∙ or_same c.in_ok-unsigned.ensures c.in_ok-signed.ensures
