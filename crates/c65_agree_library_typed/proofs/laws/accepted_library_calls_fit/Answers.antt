use Rattle.c65_agree_library_typed.proofs.Fitting.{accepted_library_calls_fit}
use Rattle.c65_agree_library_typed.proofs.laws.accepted_library_calls_fit.Goals as goal

pub returns : goal.returns
returns c = accepted_library_calls_fit
