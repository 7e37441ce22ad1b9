use Rattle.std.proofs.Common.{◌∙◌}
use Rattle.c65_init_join.specs.Checks.{has_main_words}
use Rattle.c65_init_join.proofs.CheckLaws.{or_same}
use Rattle.c65_init_join.proofs.checks.has_main_words.Goals as goal

pub returns : goal.returns
unfolding has_main_words
returns c = c.either.ensures ∙ or_same c.in_ok-unsigned.ensures c.in_ok-signed.ensures
