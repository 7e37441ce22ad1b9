use Rattle.std.proofs.Common.{◌≡◌, Option, Some, None, ap, sym, ◌∙◌}
use Rattle.c65_base.specs.declared.refusal.Pos.{Pos}
use Rattle.c65_tree.specs.declared.expr.Specifiers.{out-Specifiers}
use Rattle.c65_elab_declare.specs.Prototypes.{first_of, place_or}
use Rattle.c65_elab_declare.proofs.Lists.{storage_place_is}
use Rattle.c65_elab_declare.proofs.params.storage_place.Goals as goal

pub returns-in-Some : goal.returns-in-Some
returns-in-Some c =
    let q = c.args.specifiers.now in
    let h : first_of (out-Specifiers q).items.items ≡ Some c.in-Some.pos = cc (ap first_of c.deref.ensures.value, c.in-Some.ensures) in
    sym (storage_place_is q ∙ ap (λ (o : Option Pos). place_or o (out-Specifiers q).pos) h)

pub returns-in-None : goal.returns-in-None
returns-in-None c =
    let q = c.args.specifiers.now in
    let h : first_of (out-Specifiers q).items.items ≡ None = cc (ap first_of c.deref.ensures.value, c.in-None.ensures) in
    sym (storage_place_is q ∙ ap (λ (o : Option Pos). place_or o (out-Specifiers q).pos) h)
