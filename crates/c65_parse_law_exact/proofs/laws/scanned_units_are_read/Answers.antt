use Rattle.c65_parse_law_exact.proofs.Scanned.{scanned_tokens_end_once, scanned_units_are_read}
use Rattle.c65_parse_law_exact.proofs.laws.scanned_units_are_read.Goals as goal

pub returns-clause-ends : goal.returns-clause-ends
returns-clause-ends c = scanned_tokens_end_once

pub returns-clause-read : goal.returns-clause-read
returns-clause-read c = scanned_units_are_read
