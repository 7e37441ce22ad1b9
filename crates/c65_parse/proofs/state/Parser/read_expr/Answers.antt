use Rattle.std.proofs.Common.{[]}
use Rattle.c65_tree.specs.View.{expr_of}
use Rattle.c65_parse.specs.Frames.{operand}
use Rattle.c65_parse.specs.Machine.{run}
use Rattle.c65_parse.specs.Reading.{rest_of, blocks_of, as_expr}
use Rattle.c65_parse.proofs.Answering.{refused_first, behind}
use Rattle.c65_parse.proofs.state.Parser.read_expr.Goals as goal

pub returns-in-Ok : goal.returns-in-Ok
returns-in-Ok c = behind (λ e. (expr_of e.expr, rest_of c.read.new.self, blocks_of c.read.new.self)) c.expr_from.result (run c.args.limit c.args.least (blocks_of c.args.self.now) [] operand (rest_of c.args.self.now)) as_expr _ c.in-Ok.ensures c.expr_from.ensures

pub returns-in-Err : goal.returns-in-Err
returns-in-Err c = refused_first c.in-Err.refusal (run c.args.limit c.args.least (blocks_of c.args.self.now) [] operand (rest_of c.args.self.now)) as_expr c.in-Err.ensures
