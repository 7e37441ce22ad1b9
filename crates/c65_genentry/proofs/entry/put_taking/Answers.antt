use Rattle.c65_genwide.proofs.Kept.{kept_last}
use Rattle.c65_genentry.proofs.entry.put_taking.Goals as goal

pub returns-clause-kept : goal.returns-clause-kept
returns-clause-kept c =
    kept_last _ _ _ _ _ c.in_ok-put_pushed.ensures.lines (kept_last _ _ _ _ _ c.in_ok-put_counted.ensures.lines (kept_last _ _ _ _ _ c.in_ok-put_saved.ensures.lines (kept_last _ _ _ _ _ c.in_ok-put_early.ensures.lines (kept_last _ _ _ _ _ c.in_ok-put_kept.ensures.lines
    (kept_last _ _ _ _ _ c.in_ok-lower.ensures.lines (kept_last _ _ _ _ _ c.in_ok-put_count.ensures.lines c.put_late.ensures.kept))))))
