use Rattle.std.proofs.Common.{◌≡◌, ap, subst, ◌∙◌, Some, None, option_map}
use Rattle.c65_macro.specs.Definitions
use Rattle.c65_macro.specs.Definitions.{same_macro}
use Rattle.c65_macro.proofs.table.Macros.known.Goals as goal

pub returns-in-Some : goal.returns-in-Some
returns-in-Some c = subst (λ t. Some c.same_macro.result ≡ Definitions.known t c.args.item.now) c.self.view_is (ap Some c.same_macro.ensures ∙ ap (option_map (λ old. same_macro old c.args.item.now)) c.in-Some.ensures.value)

pub returns-in-None : goal.returns-in-None
returns-in-None c = subst (λ t. None ≡ Definitions.known t c.args.item.now) c.self.view_is (ap (option_map (λ old. same_macro old c.args.item.now)) c.in-None.ensures.value)
