use Rattle.c65_genwide.proofs.Kept.{kept_last}
use Rattle.c65_geneffect.proofs.placing.put_later_value.Goals as goal

pub returns-in-One-clause-kept : goal.returns-in-One-clause-kept
returns-in-One-clause-kept c = kept_last _ _ _ _ _ c.in_ok-put_scaled.ensures.lines (kept_last _ _ _ _ _ c.in_ok-put.ensures.lines c.put-in-One.ensures.kept)

pub returns-in-Two-clause-kept : goal.returns-in-Two-clause-kept
returns-in-Two-clause-kept c = kept_last _ _ _ _ _ c.in_ok-put_scaled.ensures.lines (kept_last _ _ _ _ _ c.in_ok-put.ensures.lines c.put-in-Two.ensures.kept)
