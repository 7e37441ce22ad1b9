use Rattle.std.proofs.Common.{map, sym, subst}
use Rattle.c65_base.specs.declared.refusal.Refusal.{Refusal}
use Rattle.c65_base.specs.Answers.{Fails}
use Rattle.c65_tree.specs.View.{init_of}
use Rattle.c65_init_cells.specs.Values.{only_value}
use Rattle.c65_init_cells.proofs.ItemLaws.{second_is}
use Rattle.c65_init_cells.proofs.parts.only_value.Goals as goal

pub returns-in-len2-up-clause-exact : goal.returns-in-len2-up-clause-exact
returns-in-len2-up-clause-exact c =
    let fault = second_is c.args.pos c.args.items.now c.second-item.result c.in-len2-up.len_at_least c.second-item.is in
    subst (λ (e : Refusal). Fails e (only_value c.args.pos (map init_of c.args.items.now))) (sym c.fault-in-len2-up.ensures) fault
