use Rattle.c65_tree.proofs.Views
use Rattle.c65_tree.proofs.expr.Specifier.enumeration.Goals as goal

pub returns : goal.returns
returns c = Views.enum_view c.args.pos c.args.tag c.args.enumerators
