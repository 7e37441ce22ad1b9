use Rattle.std.proofs.Common.{sym, subst}
use Rattle.c65_csem.specs.Views.{typed_of}
use Rattle.c65_genexpr.specs.Places.{place_of}
use Rattle.c65_geneffect.specs.declared.changing.Changing.{Changing}
use Rattle.c65_geneffect.specs.Changing.{ChangesFree}
use Rattle.c65_geneffect.proofs.Known.{changes_free}
use Rattle.c65_geneffect.proofs.changing.changing_of.Goals as goal

pub returns-clause-free : goal.returns-clause-free
returns-clause-free c =
    let b = typed_of c.args.b.now in
    subst (λ (how : Changing). ChangesFree how b) (sym c.form_of.ensures) (changes_free c.args.op c.args.operands c.args.size (place_of c.args.frame.now c.args.pushed (typed_of c.args.a.now)) c.args.access b)
