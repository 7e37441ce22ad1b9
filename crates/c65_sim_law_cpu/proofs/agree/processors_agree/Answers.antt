use Rattle.c65_sim_law_cpu.proofs.Running.{agreed}
use Rattle.c65_sim_law_cpu.proofs.agree.processors_agree.Goals as goal

pub returns : goal.returns
returns c = agreed
