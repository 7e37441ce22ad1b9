use Rattle.c65_agree_direct.proofs.Tests.{direct_loads_are_tested}
use Rattle.c65_agree_direct.proofs.laws.direct_loads_are_tested.Goals as goal

pub returns : goal.returns
returns c = direct_loads_are_tested
