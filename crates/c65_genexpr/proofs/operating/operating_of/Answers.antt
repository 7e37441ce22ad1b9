use Rattle.std.proofs.Common.{sym, subst}
use Rattle.c65_csem.specs.Views.{typed_of}
use Rattle.c65_genexpr.specs.declared.operating.Operating.{Operating}
use Rattle.c65_genexpr.specs.Leaving.{OperatesFree}
use Rattle.c65_genexpr.proofs.Known.{operates_free}
use Rattle.c65_genexpr.proofs.operating.operating_of.Goals as goal

pub returns-clause-free : goal.returns-clause-free
returns-clause-free c =
    let a = typed_of c.args.a.now in
    let b = typed_of c.args.b.now in
    subst (λ (how : Operating). OperatesFree how a b) (sym c.form_of.ensures) (operates_free c.args.frame.now c.args.pushed c.args.op c.args.operands a b)
