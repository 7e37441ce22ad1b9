use Rattle.c65_genwide.proofs.Kept.{kept_last}
use Rattle.c65_genload.proofs.fields.put_astride.Goals as goal

pub returns-clause-kept : goal.returns-clause-kept
returns-clause-kept c =
    kept_last _ _ _ _ _ c.in_ok-put.ensures.lines
    (kept_last _ _ _ _ _ c.in_ok-put_both_down.ensures.lines
    (kept_last _ _ _ _ _ c.in_ok-put-2.ensures.lines c.narrow.ensures.kept))
