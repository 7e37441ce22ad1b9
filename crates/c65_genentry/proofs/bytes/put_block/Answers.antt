use Rattle.c65_genentry.proofs.Kept.{code_last}
use Rattle.c65_genentry.proofs.bytes.put_block.Goals as goal

pub returns-clause-kept : goal.returns-clause-kept
returns-clause-kept c = code_last _ _ _ _ _ _ c.in_ok-put_pages.ensures.lines c.put_rest.ensures.kept
