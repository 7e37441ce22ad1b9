use Rattle.std.specs.Prelude.{true}
use Rattle.c65_parse.specs.declared.frame.Sort.TheVariants as sorts
use Rattle.c65_parse.specs.Reading.{declarator_read}
use Rattle.c65_parse_law_trees.proofs.Accepted.{accepted}
use Rattle.c65_parse_law_trees.proofs.Top.{declarators_are_read}
use Rattle.c65_parse_law_trees.proofs.calls.read_declarator.Goals as goal

pub returns : goal.returns
returns c = λ tree front next others are p deep ends. accepted _ c.parse_declarator.result (declarator_read 256 (sorts.Named true) _) _ _ _ c.parse_declarator.ensures are (declarators_are_read 256 (sorts.Named true) _ _ next.pos tree front next others p deep ends)
