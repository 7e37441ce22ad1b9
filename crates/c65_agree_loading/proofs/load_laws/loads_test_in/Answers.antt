use Rattle.c65_agree_loading.proofs.Tests.{loads_test_in}
use Rattle.c65_agree_loading.proofs.load_laws.loads_test_in.Goals as goal

pub returns : goal.returns
returns c = loads_test_in
