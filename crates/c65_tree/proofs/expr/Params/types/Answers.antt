use Rattle.c65_tree.proofs.Views
use Rattle.c65_tree.proofs.expr.Params.types.Goals as goal

pub returns : goal.returns
returns c = Views.types_view c.args.params c.args.more
