use Rattle.std.proofs.Common.{◌≡◌, false}
use Rattle.c65_tree.specs.View.{type_of}
use Rattle.c65_parse.specs.Reading.{rest_of, blocks_of, listed_read, type_behind}
use Rattle.c65_parse.proofs.Answering.{refused_first, behind}
use Rattle.c65_parse.proofs.parser.parse_type_name.Goals as goal

pub returns-in-Ok : goal.returns-in-Ok
returns-in-Ok c = behind (λ t. (type_of t, rest_of c.type_behind.new.parser, blocks_of c.type_behind.new.parser)) c.type_behind.result (listed_read 256 false (blocks_of c.args.parser.now) (rest_of c.args.parser.now)) (λ q. type_behind 256 q.0 q.2 q.1) _ c.in-Ok.ensures c.type_behind.ensures

pub returns-in-Err : goal.returns-in-Err
returns-in-Err c = refused_first c.in-Err.refusal (listed_read 256 false (blocks_of c.args.parser.now) (rest_of c.args.parser.now)) (λ q. type_behind 256 q.0 q.2 q.1) c.in-Err.ensures
