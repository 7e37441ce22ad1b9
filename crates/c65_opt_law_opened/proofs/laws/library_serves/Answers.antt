use Rattle.c65_opt_law_opened.proofs.Library.{library_serves}
use Rattle.c65_opt_law_opened.proofs.laws.library_serves.Goals as goal

pub returns : goal.returns
returns c = library_serves c.justified_lines_follow.ensures c.following_until_end_composes.ensures.holds
