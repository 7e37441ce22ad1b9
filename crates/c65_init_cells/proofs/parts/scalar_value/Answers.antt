use Rattle.std.proofs.Common.{◌≡◌, ◌∙◌, List, map, sym, ap, subst, rules, arith}
use Rattle.std.proofs.lemmas.Grind.{common_steps}
use Rattle.c65_tree.specs.declared.stmt.Initialiser.{Initialiser}
use Rattle.c65_tree.specs.declared.stmt.InitKind.{InitKind}
use Rattle.c65_tree.specs.View.{init_at, init_of}
use Rattle.c65_init_cells.specs.Values.{scalar_value, only_value}
use Rattle.c65_init_cells.proofs.ItemLaws.{value_list}
use Rattle.c65_init_cells.proofs.parts.scalar_value.Goals as goal

pub returns-in-List-clause-exact : goal.returns-in-List-clause-exact
returns-in-List-clause-exact c =
    let same = ap (λ (k : InitKind). scalar_value (init_at c.args.init.now.pos k)) c.in-List.is ∙ value_list c.args.init.now.pos c.in-List.items ∙ sym (ap (λ (is : List Initialiser). only_value c.args.init.now.pos (map init_of is)) c.deref.ensures.value) in
    rw same (first_of (search rules, grind (arith, common_steps)))
