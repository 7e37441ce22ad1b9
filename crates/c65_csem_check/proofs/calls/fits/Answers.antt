use Rattle.std.proofs.Common.{◌∙◌}
use Rattle.c65_ctype.specs.Views.{types_of}
use Rattle.c65_csem.specs.Views.{nodes_of}
use Rattle.c65_csem_check.proofs.CodeLaws.{fits_by}
use Rattle.c65_csem_check.proofs.calls.fits.Goals as goal

pub returns-in-Some : goal.returns-in-Some
returns-in-Some c = c.are_given.ensures ∙ fits_by (types_of c.args.types.now) c.args.function.now c.in-Some.parameters c.deref.result.now (nodes_of c.args.arguments.now) c.in-Some.is c.deref.ensures.value
