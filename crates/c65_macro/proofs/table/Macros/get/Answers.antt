use Rattle.std.proofs.Common.{◌≡◌, Some, ap, subst, ◌∙◌}
use Rattle.std.specs.Prelude.{option_copied}
use Rattle.c65_macro.specs.Table
use Rattle.c65_macro.specs.Table.{or_else, find}
use Rattle.c65_macro.proofs.table.Macros.get.Goals as goal

pub returns-in-Some : goal.returns-in-Some
returns-in-Some c = subst (λ t. Some c.in-Some.item.now ≡ Table.lookup t c.args.name) c.self.view_is (ap (λ o. or_else o (find c.args.name c.self.inside.defined.entries)) c.in-Some.ensures.value)

pub returns-in-None : goal.returns-in-None
returns-in-None c = subst (λ t. option_copied c.get-in-None.result ≡ Table.lookup t c.args.name) c.self.view_is (c.get-in-None.ensures.value ∙ ap (λ o. or_else o (find c.args.name c.self.inside.defined.entries)) c.in-None.ensures.value)
