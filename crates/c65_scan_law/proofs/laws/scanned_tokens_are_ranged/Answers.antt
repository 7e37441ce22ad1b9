use Rattle.c65_scan_law.proofs.TokenLaws.{tokens_ranged}
use Rattle.c65_scan_law.proofs.laws.scanned_tokens_are_ranged.Goals as goal

pub returns : goal.returns
returns c = tokens_ranged
