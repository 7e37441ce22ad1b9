use Rattle.c65_agree_loading.proofs.Tests.{loads_test}
use Rattle.c65_agree_loading.proofs.load_laws.loads_test.Goals as goal

pub returns : goal.returns
returns c = loads_test
