use Rattle.std.proofs.Common.{◌∙◌}
use Rattle.c65_csem.specs.Views.{unit_of}
use Rattle.c65_csem_check.proofs.CodeLaws.{match_end}
use Rattle.c65_csem_check.proofs.units.params_match.Goals as goal

pub returns : goal.returns
returns c = match_end (unit_of c.args.parts.now) c.args.types.now c.args.params.now c.loop-i.i c.loop-i-test.false c.loop-i.auto.i-end c.loop-i.invariant.within ∙ c.loop-i.invariant.so_far
