use Rattle.c65_tree.specs.View.{type_of}
use Rattle.c65_parse.specs.Reading.{rest_of}
use Rattle.c65_parse_law_least.proofs.Scopes.{few_types}
use Rattle.c65_parse_law_exact.proofs.Exactly.{reads_front}
use Rattle.c65_parse_law_exact.proofs.Knowing.{known_type}
use Rattle.c65_parse_law_exact.proofs.calls.type_name_exactly.Goals as goal

pub returns : goal.returns
returns c = λ once l. reads_front _ _ _ _ _ c.args.parser.now c.parse_type_name.new.parser type_of l c.parse_type_name.result (known_type _ _ (rest_of c.args.parser.now) (few_types c.args.parser.now.scope) once) c.parse_type_name.ensures
