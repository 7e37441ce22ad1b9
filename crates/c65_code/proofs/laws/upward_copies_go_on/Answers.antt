use Rattle.c65_code.proofs.CopyLaws.{upward_copies_go_on}
use Rattle.c65_code.proofs.laws.upward_copies_go_on.Goals as goal

pub returns : goal.returns
returns c = upward_copies_go_on
