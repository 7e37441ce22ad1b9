use Rattle.std.proofs.Common.{◌∙◌}
use Rattle.std.proofs.lemmas.Result.{IfOk-weaker}
use Rattle.c65_rtl_law_runtime.proofs.All.{routines_are_met}
use Rattle.c65_rtl_law_runtime.proofs.routines.take_routine.Goals as goal

pub returns-clause-meets : goal.returns-clause-meets
returns-clause-meets c = IfOk-weaker c.written.result _ _ (λ seg h. λ s e inner. routines_are_met s c.args.which c.requires (e ∙ h) inner) c.written.ensures.lines
