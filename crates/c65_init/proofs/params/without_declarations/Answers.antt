use Rattle.std.proofs.Common.{map, sym, subst}
use Rattle.c65_base.specs.declared.refusal.Refusal.{Refusal}
use Rattle.c65_base.specs.Answers.{Fails}
use Rattle.c65_tree.specs.View.{decl_of}
use Rattle.c65_init.specs.Parameters.{no_declarations}
use Rattle.c65_init.proofs.Places.{declarations_stand}
use Rattle.c65_init.proofs.params.without_declarations.Goals as goal

pub returns-in-len1-up : goal.returns-in-len1-up
returns-in-len1-up c =
    let fault = declarations_stand c.args.declarations.now c.first-item.result c.in-len1-up.len_at_least c.first-item.is in
    subst (λ (e : Refusal). Fails e (no_declarations (map decl_of c.args.declarations.now))) (sym c.fault.ensures) fault
