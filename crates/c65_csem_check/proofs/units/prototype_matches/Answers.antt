use Rattle.std.proofs.Common.{◌∙◌}
use Rattle.c65_csem.specs.Views.{unit_of}
use Rattle.c65_csem_check.proofs.CodeLaws.{matches_by}
use Rattle.c65_csem_check.proofs.units.prototype_matches.Goals as goal

pub returns-in-Some : goal.returns-in-Some
returns-in-Some c = c.params_match.ensures ∙ matches_by (unit_of c.args.parts.now) c.args.function.now c.in-Some.types c.deref.result.now c.args.params.now c.in-Some.is c.deref.ensures.value
