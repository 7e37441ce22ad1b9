use Rattle.c65_agree_library_expr.proofs.Named.{named_library_calls_are_expressions}
use Rattle.c65_agree_library_expr.proofs.laws.named_library_calls_are_expressions.Goals as goal

pub returns : goal.returns
returns c = named_library_calls_are_expressions
