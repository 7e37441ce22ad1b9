use Rattle.std.proofs.Common.{Option, sym, subst}
use Rattle.c65_csem.specs.Views.{typed_of}
use Rattle.c65_genexpr.specs.Places.{place_of}
use Rattle.c65_geneffect.specs.declared.changing.Fill.{Fill}
use Rattle.c65_geneffect.specs.Changing.{FillsFree}
use Rattle.c65_geneffect.proofs.Known.{fills_free}
use Rattle.c65_geneffect.proofs.changing.filling_of.Goals as goal

pub returns-clause-free : goal.returns-clause-free
returns-clause-free c =
    let b = typed_of c.args.b.now in
    subst (λ (fill : Option Fill). FillsFree fill b) (sym c.filling_by.ensures) (fills_free (place_of c.args.frame.now c.args.pushed (typed_of c.args.a.now)) c.args.access b)
