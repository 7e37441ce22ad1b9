use Rattle.std.proofs.Common.{sym, subst}
use Rattle.c65_csem.specs.Views.{typed_of}
use Rattle.c65_geneffect.specs.declared.placing.Placing.{Placing}
use Rattle.c65_geneffect.specs.Placing.{PlacesFree}
use Rattle.c65_geneffect.proofs.Placed.{places_free}
use Rattle.c65_geneffect.proofs.placing.placing_of.Goals as goal

pub returns-clause-free : goal.returns-clause-free
returns-clause-free c =
    let a = typed_of c.args.a.now in
    let b = typed_of c.args.b.now in
    subst (λ (how : Placing). PlacesFree how a b) (sym c.form_of.ensures) (places_free c.args.frame.now c.args.pushed a b)
