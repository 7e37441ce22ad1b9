use Rattle.std.proofs.Common.{◌≡◌, Ok, true}
use Rattle.c65_parse.specs.Reading.{rest_of, blocks_of, listed_read}
use Rattle.c65_parse.proofs.Answering.{refused_first, made_of}
use Rattle.c65_parse.proofs.parser.parse_specifiers.Goals as goal

pub returns-in-Ok : goal.returns-in-Ok
returns-in-Ok c = made_of (listed_read 256 true (blocks_of c.args.parser.now) (rest_of c.args.parser.now)) (λ q. Ok (q.0.tree, q.1, q.2)) _ c.in-Ok.ensures

pub returns-in-Err : goal.returns-in-Err
returns-in-Err c = refused_first c.in-Err.refusal (listed_read 256 true (blocks_of c.args.parser.now) (rest_of c.args.parser.now)) (λ q. Ok (q.0.tree, q.1, q.2)) c.in-Err.ensures
