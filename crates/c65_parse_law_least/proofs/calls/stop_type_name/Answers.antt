use Rattle.std.proofs.Common.{arith}
use Rattle.c65_parse.specs.Reading.{rest_of, blocks_of, type_read}
use Rattle.c65_parse_law_least.proofs.Scopes.{few_types, stopped}
use Rattle.c65_parse_law_least.proofs.Types.{types_stop}
use Rattle.c65_parse_law_least.proofs.calls.stop_type_name.Goals as goal

pub returns : goal.returns
returns c = λ l. stopped 256 _ c.parse_type_name.result (type_read 256 (blocks_of c.args.parser.now) (rest_of c.args.parser.now)) _ _ _ c.parse_type_name.ensures (λ fault e. types_stop 256 _ _ l (rest_of c.args.parser.now) fault (omega arith) (few_types c.args.parser.now.scope) c.requires e)
