use Rattle.std.proofs.Common.{ap, ◌∙◌}
use Rattle.c65_csem.specs.Views.{unit_of}
use Rattle.c65_depth.specs.Numbers.{certificate_of}
use Rattle.c65_depth.proofs.program.certify.Goals as goal

pub returns-clause-made : goal.returns-clause-made
returns-clause-made c =
    c.in_ok-made.ensures
    ∙ ap (certificate_of (unit_of c.parts.result.now)) c.main.ensures.same
    ∙ ap (λ parts. certificate_of (unit_of parts) c.args.program.now.1) (c.parts.ensures.same ∙ c.unit.ensures.same)
