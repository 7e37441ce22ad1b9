use Rattle.std.proofs.Common.{◌∙◌, sym, subst}
use Rattle.std.proofs.lemmas.Option.{same_Some}
use Rattle.c65_live.specs.Regions.{IsSame}
use Rattle.c65_live.proofs.border.leads_same.Goals as goal

pub returns-else-to-first : goal.returns-else-to-first
returns-else-to-first c h r e far = subst (λ i. IsSame c.args.change.at c.args.change.count c.args.change.new c.args.old.now c.args.live.now i) (same_Some c.in-Some.to r (sym c.in-Some.is ∙ e)) (c.is_same.ensures h)
