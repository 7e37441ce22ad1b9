use Rattle.c65_elab_law.proofs.HeadingLaws.{begins}
use Rattle.c65_elab_law.proofs.laws.scopes_begin.Goals as goal

pub returns : goal.returns
returns c = begins
