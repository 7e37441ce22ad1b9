use Rattle.std.proofs.Common.{◌∙◌, ap, sym}
use Rattle.c65_csem.specs.declared.items.Parts.{Parts}
use Rattle.c65_csem.specs.Views.{unit_of}
use Rattle.c65_csem_check.specs.Units
use Rattle.c65_csem_check.proofs.UnitLaws.{program_yes, program_only}
use Rattle.c65_csem_check.proofs.units.is_program.Goals as goal

pub returns : goal.returns
returns c =
    let u = unit_of c.args.unit.now in
    let e = c.is_program_by.ensures ∙ ap (λ (p : Parts). Units.is_program (unit_of p) c.args.main) c.parts.ensures.same in
    (λ h. program_yes u c.args.main c.parts.ensures.well_typed (sym e ∙ h), λ w. e ∙ program_only u c.args.main w)
