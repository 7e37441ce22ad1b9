use Rattle.std.proofs.Common.{sym, subst}
use Rattle.c65_csem.specs.Views.{typed_of}
use Rattle.c65_genexpr.specs.declared.storing.Storing.{Storing}
use Rattle.c65_genexpr.specs.Leaving.{StoresFree}
use Rattle.c65_genexpr.proofs.Known.{stores_free}
use Rattle.c65_genexpr.proofs.storing.storing_of.Goals as goal

pub returns-clause-free : goal.returns-clause-free
returns-clause-free c =
    let a = typed_of c.args.a.now in
    let b = typed_of c.args.b.now in
    subst (λ (how : Storing). StoresFree how a b) (sym c.form_of.ensures) (stores_free c.args.frame.now c.args.pushed a b)
