use Rattle.std.proofs.Common.{◌∙◌, []}
use Rattle.c65_driver.proofs.PartLaws.{one_more_part, part_of_part, joined-front}
use Rattle.c65_driver.proofs.report.write_parts.Goals as goal

pub loop-rest-preserved : goal.loop-rest-preserved
loop-rest-preserved g c = (
  one_more_part _ _ _ _ _ _ _ c.loop-rest.invariant.0 (joined-front (λ p. p.now) c.loop-rest.rest.now (record { ref_ptr = (0, 0); now = [] }) c.in-len1-up.len_at_least) c.in-Ok.ensures.bytes,
  c.in-Ok.ensures.cause.quiet ∙ c.loop-rest.invariant.1,
)

pub returns-in_default-write_all-clause-bytes : goal.returns-in_default-write_all-clause-bytes
returns-in_default-write_all-clause-bytes g c =
    let part = c.in_default-write_all.ensures.bytes in
    part_of_part _ _ _ _ _ _ _ part.0 c.loop-rest.invariant.0 (joined-front (λ p. p.now) c.loop-rest.rest.now (record { ref_ptr = (0, 0); now = [] }) c.in-len1-up.len_at_least) part.1
