use Rattle.std.proofs.Common.{[]}
use Rattle.c65_tree.specs.View.{declarator_of}
use Rattle.c65_parse.specs.Frames.{declarator}
use Rattle.c65_parse.specs.Machine.{run}
use Rattle.c65_parse.specs.Reading.{rest_of, blocks_of, as_declarator}
use Rattle.c65_parse.proofs.Answering.{refused_first, behind}
use Rattle.c65_parse.proofs.state.Parser.read_declarator.Goals as goal

pub returns-in-Ok : goal.returns-in-Ok
returns-in-Ok c = behind (λ d. (declarator_of d.declarator, rest_of c.read.new.self, blocks_of c.read.new.self)) c.declarator_from.result (run 256 0 (blocks_of c.args.self.now) [] (declarator c.args.sort) (rest_of c.args.self.now)) as_declarator _ c.in-Ok.ensures c.declarator_from.ensures

pub returns-in-Err : goal.returns-in-Err
returns-in-Err c = refused_first c.in-Err.refusal (run 256 0 (blocks_of c.args.self.now) [] (declarator c.args.sort) (rest_of c.args.self.now)) as_declarator c.in-Err.ensures
