use Rattle.std.proofs.Common.{arith}
use Rattle.c65_parse.specs.Reading.{expr_read}
use Rattle.c65_parse_law_trees.proofs.Accepted.{accepted}
use Rattle.c65_parse_law_trees.proofs.Top.{exprs_are_read}
use Rattle.c65_parse_law_trees.proofs.calls.read_assignment.Goals as goal

pub returns : goal.returns
returns c = λ tree front next others are p deep ends. accepted _ c.parse_assignment.result (expr_read 256 1 _) _ _ _ c.parse_assignment.ensures are (exprs_are_read 256 1 _ _ tree front next others p.1 p.0 deep (omega arith) ends)
