use Rattle.std.proofs.Common.{◌∙◌, sym}
use Rattle.c65_csem.specs.Views.{unit_of}
use Rattle.c65_csem_check.proofs.UnitLaws.{unit_yes, unit_only}
use Rattle.c65_csem_check.proofs.units.is_unit.Goals as goal

pub returns-clause-sound : goal.returns-clause-sound
returns-clause-sound c = λ h. unit_yes (unit_of c.args.parts.now) (sym c.in_ok-so.ensures ∙ h)

pub returns-clause-complete : goal.returns-clause-complete
returns-clause-complete c = λ w m. c.in_ok-so.ensures ∙ unit_only (unit_of c.args.parts.now) w m
