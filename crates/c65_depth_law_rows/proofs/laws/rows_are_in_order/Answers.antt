use Rattle.c65_depth_law_rows.proofs.Order.{rows_are_in_order as the_law}
use Rattle.c65_depth_law_rows.proofs.laws.rows_are_in_order.Goals as goal

pub returns : goal.returns
returns c = the_law
