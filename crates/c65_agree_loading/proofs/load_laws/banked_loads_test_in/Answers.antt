use Rattle.c65_agree_loading.proofs.Banked.{banked_loads_test_in}
use Rattle.c65_agree_loading.proofs.load_laws.banked_loads_test_in.Goals as goal

pub returns : goal.returns
returns c = banked_loads_test_in
