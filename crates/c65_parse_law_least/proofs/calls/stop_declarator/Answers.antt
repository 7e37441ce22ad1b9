use Rattle.std.proofs.Common.{arith}
use Rattle.std.specs.Prelude.{true}
use Rattle.c65_parse.specs.declared.frame.Sort.TheVariants as sorts
use Rattle.c65_parse.specs.Reading.{rest_of, blocks_of, declarator_read}
use Rattle.c65_parse_law_least.proofs.Scopes.{few_types, stopped}
use Rattle.c65_parse_law_least.proofs.Whole.{declarators_stop}
use Rattle.c65_parse_law_least.proofs.calls.stop_declarator.Goals as goal

pub returns : goal.returns
returns c = λ l. stopped 256 _ c.parse_declarator.result (declarator_read 256 (sorts.Named true) (blocks_of c.args.parser.now) (rest_of c.args.parser.now)) _ _ _ c.parse_declarator.ensures (λ fault e. declarators_stop 256 (sorts.Named true) _ _ l (rest_of c.args.parser.now) fault (omega arith) (few_types c.args.parser.now.scope) c.requires e)
