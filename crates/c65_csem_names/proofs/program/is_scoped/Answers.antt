use Rattle.std.proofs.Common.{◌∙◌, ap, sym}
use Rattle.c65_csem.specs.declared.items.Parts.{Parts}
use Rattle.c65_csem.specs.Views.{unit_of}
use Rattle.c65_csem_names.specs.Tests
use Rattle.c65_csem_names.proofs.ProgramLaws.{tells_program}
use Rattle.c65_csem_names.proofs.program.is_scoped.Goals as goal

pub returns : goal.returns
returns c =
    let u = unit_of c.args.program.now.0 in
    let told = tells_program u c.args.program.now.1 in
    let e = c.in_ok-so.ensures ∙ ap (λ (p : Parts). Tests.is_scoped_program (unit_of p) c.main.result) (c.parts.ensures.same ∙ c.unit.ensures.same) ∙ ap (Tests.is_scoped_program u) c.main.ensures.same in
    (λ h. told.yes (sym e ∙ h), λ w. e ∙ told.only w)
