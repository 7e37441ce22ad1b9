use Rattle.c65_agree_store.proofs.Areas.{cells_are_laid}
use Rattle.c65_agree_store.proofs.laws.cells_are_laid.Goals as goal

pub returns : goal.returns
returns c = cells_are_laid
