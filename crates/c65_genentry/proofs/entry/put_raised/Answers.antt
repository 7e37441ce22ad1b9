use Rattle.c65_genwide.proofs.Kept.{kept_last}
use Rattle.c65_genentry.proofs.entry.put_raised.Goals as goal

pub returns-clause-kept : goal.returns-clause-kept
returns-clause-kept c = kept_last _ _ _ _ _ c.in_ok-put.ensures.lines (kept_last _ _ _ _ _ c.in_ok-put_all_counted.ensures.lines c.put-3.ensures.kept)
