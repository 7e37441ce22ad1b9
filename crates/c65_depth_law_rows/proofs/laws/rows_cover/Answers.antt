use Rattle.c65_depth_law_rows.proofs.Cover.{rows_cover as the_law}
use Rattle.c65_depth_law_rows.proofs.laws.rows_cover.Goals as goal

pub returns : goal.returns
returns c = the_law
