use Rattle.c65_genwide.proofs.Kept.{kept_last}
use Rattle.c65_genentry.proofs.ends.put_plain.Goals as goal

pub returns-clause-kept : goal.returns-clause-kept
returns-clause-kept c =
    kept_last _ _ _ _ _ c.in_ok-raise.ensures.lines (kept_last _ _ _ _ _ c.in_ok-put_restored.ensures.lines (kept_last _ _ _ _ _ c.in_ok-raise-2.ensures.lines c.put.ensures.kept))
