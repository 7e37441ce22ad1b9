use Rattle.c65_genwide.proofs.Kept.{kept_last}
use Rattle.c65_genload.proofs.stores.set_in_unit.Goals as goal

pub returns-clause-kept : goal.returns-clause-kept
returns-clause-kept c =
    kept_last _ _ _ _ _ c.in_ok-align.ensures.lines
    (kept_last _ _ _ _ _ c.in_ok-run.ensures.lines
    (kept_last _ _ _ _ _ c.in_ok-load_under.ensures.lines
    (kept_last _ _ _ _ _ c.in_ok-mask.ensures.lines
    (kept_last _ _ _ _ _ c.in_ok-run-2.ensures.lines c.store_bytes.ensures.kept))))
