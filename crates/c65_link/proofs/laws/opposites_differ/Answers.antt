use Rattle.c65_link.proofs.TableLaws.{opposites_differ}
use Rattle.c65_link.proofs.laws.opposites_differ.Goals as goal

pub returns : goal.returns
returns c = opposites_differ
