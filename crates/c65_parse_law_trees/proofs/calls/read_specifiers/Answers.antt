use Rattle.c65_parse.specs.Reading.{specifiers_read}
use Rattle.c65_parse_law_trees.proofs.Accepted.{accepted}
use Rattle.c65_parse_law_trees.proofs.Top.{specifiers_are_read}
use Rattle.c65_parse_law_trees.proofs.calls.read_specifiers.Goals as goal

pub returns : goal.returns
returns c = λ tree front next others are p deep ends. accepted _ c.parse_specifiers.result (specifiers_read 256 _) _ _ _ c.parse_specifiers.ensures are (specifiers_are_read 256 _ _ tree front next others p deep ends)
