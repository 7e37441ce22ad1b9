use Rattle.c65_ctype.specs.Views.{types_of}
use Rattle.c65_ctype.proofs.FinishLaws.{opened}
use Rattle.c65_ctype.proofs.table.Types.open_tag.Goals as goal

pub returns-clause-unfinished : goal.returns-clause-unfinished
returns-clause-unfinished c = opened (types_of c.args.self.now) (types_of c.add.new.self) c.args.is_union c.in_ok-tag.tag c.in_ok-tag.ensures.ok c.in_ok-tag.ensures.tag
