use Rattle.std.proofs.Common.{rules}
use Rattle.c65_pass.proofs.Chains.{refused_early}
use Rattle.c65_pass.proofs.run.run_pass.Goals as goal

pub returns-in_err-live : goal.returns-in_err-live
returns-in_err-live g c = refused_early _ _ _ _ c.seg.ensures.kept (search rules) (search rules)
