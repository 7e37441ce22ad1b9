use Rattle.c65_agree_loading.proofs.Loads.{loads_do_in}
use Rattle.c65_agree_loading.proofs.load_laws.loads_do_in.Goals as goal

pub returns : goal.returns
returns c = loads_do_in
