use Rattle.c65_genwide.proofs.Kept.{grown_last, label_then, label_last, refused_then}
use Rattle.c65_geneffect.proofs.effect.put_stepped.Goals as goal

pub returns-in_err-put_base-in-Some-clause-kept : goal.returns-in_err-put_base-in-Some-clause-kept
returns-in_err-put_base-in-Some-clause-kept c = refused_then c.from_residual-in_err-put_base-in-Some.result (label_then _ _ _ c.in_ok-label.ensures.draft c.in_err-put_base-in-Some.ensures.kept)

pub returns-in_ok-put_base-in-Some-clause-kept : goal.returns-in_ok-put_base-in-Some-clause-kept
returns-in_ok-put_base-in-Some-clause-kept c = label_last _ _ _ _ c.in_ok-label.ensures.draft (grown_last _ _ _ _ _ _ c.in_ok-put_base-in-Some.ensures.lines c.put_change.ensures.kept)

pub returns-in_err-put_base-in-None-clause-kept : goal.returns-in_err-put_base-in-None-clause-kept
returns-in_err-put_base-in-None-clause-kept c = refused_then c.from_residual-in_err-put_base-in-None.result (label_then _ _ _ c.in_ok-label.ensures.draft c.in_err-put_base-in-None.ensures.kept)

pub returns-in_ok-put_base-in-None-clause-kept : goal.returns-in_ok-put_base-in-None-clause-kept
returns-in_ok-put_base-in-None-clause-kept c = label_last _ _ _ _ c.in_ok-label.ensures.draft (grown_last _ _ _ _ _ _ c.in_ok-put_base-in-None.ensures.lines c.put_step.ensures.kept)
