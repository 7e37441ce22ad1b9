use Rattle.c65_genwide.proofs.Kept.{kept_last}
use Rattle.c65_genexpr.proofs.spills.put_spill.Goals as goal

pub returns-clause-kept : goal.returns-clause-kept
returns-clause-kept c =
    kept_last _ _ _ _ _ c.in_ok-put_kept.ensures.lines (kept_last _ _ _ _ _ c.in_ok-put_object.ensures.lines (kept_last _ _ _ _ _ c.in_ok-put_first.ensures.lines
    (kept_last _ _ _ _ _ c.in_ok-put_further.ensures.lines c.put_again.ensures.kept)))
