use Rattle.c65_link.proofs.TableLaws.{calls_go_on}
use Rattle.c65_link.proofs.laws.calls_go_on.Goals as goal

pub returns : goal.returns
returns c = calls_go_on
