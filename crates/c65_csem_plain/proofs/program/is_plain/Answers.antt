use Rattle.std.proofs.Common.{◌∙◌, ap, sym}
use Rattle.c65_csem.specs.declared.items.Parts.{Parts}
use Rattle.c65_csem.specs.Views.{unit_of}
use Rattle.c65_csem_plain.specs.Tests
use Rattle.c65_csem_plain.proofs.PlainLaws.{plain_yes, plain_only}
use Rattle.c65_csem_plain.proofs.program.is_plain.Goals as goal

pub returns : goal.returns
returns c =
    let names = c.args.names.now in
    let u = unit_of c.args.program.now.0 in
    let main = c.args.program.now.1 in
    let e = c.in_ok-so.ensures ∙ ap (λ (p : Parts). Tests.is_plain names (unit_of p) c.main.result) (c.parts.ensures.same ∙ c.unit.ensures.same) ∙ ap (Tests.is_plain names u) c.main.ensures.same in
    (λ h. plain_yes names u main (sym e ∙ h), λ w. e ∙ plain_only names u main w)
