use Rattle.c65_link_law_laid.proofs.Linked.{linked_codes_are_laid}
use Rattle.c65_link_law_laid.proofs.laws.linked_codes_are_laid.Goals as goal

pub returns : goal.returns
returns c = linked_codes_are_laid
