use Rattle.std.proofs.Common.{arith}
use Rattle.c65_parse.specs.Reading.{rest_of, blocks_of, expr_read}
use Rattle.c65_parse_law_least.proofs.Scopes.{few_types, stopped}
use Rattle.c65_parse_law_least.proofs.Whole.{exprs_stop}
use Rattle.c65_parse_law_least.proofs.calls.stop_constant.Goals as goal

pub returns : goal.returns
returns c = stopped 256 _ c.parse_constant.result (expr_read 256 2 (blocks_of c.args.parser.now) (rest_of c.args.parser.now)) _ _ _ c.parse_constant.ensures (λ fault e. exprs_stop 256 2 _ _ (rest_of c.args.parser.now) fault (omega arith) (omega arith) (few_types c.args.parser.now.scope) c.requires e)
