use Rattle.c65_agree_library_typed.proofs.Fitting.{library_functions_have_types}
use Rattle.c65_agree_library_typed.proofs.laws.library_functions_have_types.Goals as goal

pub returns : goal.returns
returns c = library_functions_have_types
