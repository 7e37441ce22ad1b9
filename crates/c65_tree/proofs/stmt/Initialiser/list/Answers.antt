use Rattle.c65_tree.proofs.Views
use Rattle.c65_tree.proofs.stmt.Initialiser.list.Goals as goal

pub returns : goal.returns
returns c = Views.list_view c.args.pos c.args.items
