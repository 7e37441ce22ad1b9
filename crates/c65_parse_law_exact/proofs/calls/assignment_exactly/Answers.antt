use Rattle.std.proofs.Common.{arith}
use Rattle.c65_tree.specs.View.{expr_of}
use Rattle.c65_parse.specs.Reading.{rest_of}
use Rattle.c65_parse_law_least.proofs.Scopes.{few_types}
use Rattle.c65_parse_law_exact.proofs.Exactly.{reads_front}
use Rattle.c65_parse_law_exact.proofs.Knowing.{known_expr}
use Rattle.c65_parse_law_exact.proofs.calls.assignment_exactly.Goals as goal

pub returns : goal.returns
returns c = λ once l. reads_front _ _ _ _ _ c.args.parser.now c.parse_assignment.new.parser expr_of l c.parse_assignment.result (known_expr 1 _ _ (rest_of c.args.parser.now) (omega arith) (few_types c.args.parser.now.scope) once) c.parse_assignment.ensures
