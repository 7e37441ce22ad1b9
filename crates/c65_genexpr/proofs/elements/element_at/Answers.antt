use Rattle.std.proofs.Common.{Option, sym, subst}
use Rattle.c65_ints.specs.declared.types.IntType.{IntType}
use Rattle.c65_csem.specs.Views.{typed_of}
use Rattle.c65_genexpr.specs.declared.elements.Element.{Element}
use Rattle.c65_genexpr.specs.Leaving.{ElementFree}
use Rattle.c65_genexpr.proofs.Indexes.{element_free}
use Rattle.c65_genexpr.proofs.elements.element_at.Goals as goal

pub returns-clause-free : goal.returns-clause-free
returns-clause-free c =
    let e = typed_of c.args.e.now in
    subst (λ (x : Option (Element × IntType)). ElementFree x e) (sym c.kept_element.ensures) (element_free c.args.frame.now e)
