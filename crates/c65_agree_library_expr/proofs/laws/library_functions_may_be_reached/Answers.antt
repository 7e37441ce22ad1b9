use Rattle.c65_agree_library_expr.proofs.Reaching.{library_functions_may_be_reached}
use Rattle.c65_agree_library_expr.proofs.laws.library_functions_may_be_reached.Goals as goal

pub returns : goal.returns
returns c = library_functions_may_be_reached
