use Rattle.c65_parse.specs.Reading.{type_read}
use Rattle.c65_parse_law_trees.proofs.Accepted.{accepted}
use Rattle.c65_parse_law_trees.proofs.Top.{types_are_read}
use Rattle.c65_parse_law_trees.proofs.calls.read_type_name.Goals as goal

pub returns : goal.returns
returns c = λ tree front next others are p deep ends. accepted _ c.parse_type_name.result (type_read 256 _) _ _ _ c.parse_type_name.ensures are (types_are_read 256 _ _ tree front next others p deep ends)
