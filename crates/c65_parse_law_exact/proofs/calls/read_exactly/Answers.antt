use Rattle.c65_tree.specs.View.{unit_of}
use Rattle.c65_parse_law_exact.proofs.Exact.{reads_unit}
use Rattle.c65_parse_law_exact.proofs.calls.read_exactly.Goals as goal

pub returns-clause-grammar : goal.returns-clause-grammar
returns-clause-grammar c = λ once. reads_unit unit_of c.parse_unit.result c.args.tokens.now once c.parse_unit.ensures
