use Rattle.c65_opt_law_opened.proofs.Compared.{strcmp_stands}
use Rattle.c65_opt_law_opened.proofs.Counted.{memcpy_stands}
use Rattle.c65_opt_law_opened.proofs.Filled.{memset_stands}
use Rattle.c65_opt_law_opened.proofs.Measured.{strlen_stands}
use Rattle.c65_opt_law_opened.proofs.TextCopied.{strcpy_stands}
use Rattle.c65_opt_law_opened.proofs.laws.known_calls_stand.Goals as goal

pub returns-clause-measured : goal.returns-clause-measured
returns-clause-measured c = strlen_stands

pub returns-clause-copied : goal.returns-clause-copied
returns-clause-copied c = memcpy_stands

pub returns-clause-filled : goal.returns-clause-filled
returns-clause-filled c = memset_stands

pub returns-clause-text_copied : goal.returns-clause-text_copied
returns-clause-text_copied c = strcpy_stands

pub returns-clause-compared : goal.returns-clause-compared
returns-clause-compared c = strcmp_stands
