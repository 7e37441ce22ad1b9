use Rattle.c65_agree_library_typed.proofs.Fitting.{typed_arguments_are_few}
use Rattle.c65_agree_library_typed.proofs.laws.typed_arguments_are_few.Goals as goal

pub returns : goal.returns
returns c = typed_arguments_are_few
