use Rattle.std.proofs.Common.{false}
use Rattle.c65_tree.specs.View.{declarator_of}
use Rattle.c65_parse.specs.Reading.{rest_of}
use Rattle.c65_parse_law_least.proofs.Scopes.{few_types}
use Rattle.c65_parse_law_exact.proofs.Exactly.{reads_front}
use Rattle.c65_parse_law_exact.proofs.Knowing.{known_declarator}
use Rattle.c65_parse_law_exact.proofs.calls.untyped_declarator_exactly.Goals as goal

pub returns : goal.returns
returns c = λ once l. reads_front _ _ _ _ _ c.args.parser.now c.parse_untyped_declarator.new.parser declarator_of l c.parse_untyped_declarator.result (known_declarator false _ _ (rest_of c.args.parser.now) (few_types c.args.parser.now.scope) once) c.parse_untyped_declarator.ensures
