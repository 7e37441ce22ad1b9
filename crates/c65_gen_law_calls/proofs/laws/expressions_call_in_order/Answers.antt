use Rattle.c65_gen_law_calls.proofs.ExprSites.{expressions_call_in_order}
use Rattle.c65_gen_law_calls.proofs.laws.expressions_call_in_order.Goals as goal

pub returns : goal.returns
returns c = expressions_call_in_order
