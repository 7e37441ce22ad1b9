use Rattle.std.proofs.Common.{sym, subst}
use Rattle.c65_csem.specs.Views.{typed_of}
use Rattle.c65_genexpr.specs.declared.comparing.Comparing.{Comparing}
use Rattle.c65_genexpr.specs.Comparing.{tested_by}
use Rattle.c65_genexpr.specs.Leaving.{ComparesFree, LowsPlain}
use Rattle.c65_genexpr.proofs.Known.{compares_free, compares_plain}
use Rattle.c65_genexpr.proofs.comparing.comparing_of.Goals as goal

pub returns-clause-free : goal.returns-clause-free
returns-clause-free c =
    let a = typed_of c.args.a.now in
    let b = typed_of c.args.b.now in
    let r = c.args.relation in
    subst (λ (how : Comparing). ComparesFree how (tested_by r b) a (tested_by r a) b) (sym c.form_of.ensures) (compares_free c.args.frame.now c.args.pushed r c.args.kind a b)

pub returns-clause-plain : goal.returns-clause-plain
returns-clause-plain c =
    let a = typed_of c.args.a.now in
    let b = typed_of c.args.b.now in
    let r = c.args.relation in
    subst (λ (how : Comparing). LowsPlain how (tested_by r b) (tested_by r a)) (sym c.form_of.ensures) (compares_plain c.args.frame.now c.args.pushed r c.args.kind a b)
