use Rattle.std.proofs.Common.{◌≡◌, subst}
use Rattle.c65_macro.specs.Table
use Rattle.c65_macro.proofs.table.Macros.is_predefined.Goals as goal

pub returns : goal.returns
returns c = subst (λ t. c.contains_key.result ≡ Table.is_predefined t c.args.name) c.self.view_is c.contains_key.ensures
