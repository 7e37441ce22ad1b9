use Rattle.c65_genwide.proofs.Kept.{kept_then, kept_last, refused_then}
use Rattle.c65_geneffect.proofs.placing.put_read.Goals as goal

pub returns-in_err-put_op-clause-kept : goal.returns-in_err-put_op-clause-kept
returns-in_err-put_op-clause-kept c = refused_then c.from_residual-in_err-put_op.result (kept_then _ _ _ _ c.in_ok-put_scaled.ensures.lines (kept_then _ _ _ _ c.in_ok-put.ensures.lines c.in_err-put_op.ensures.kept))

pub returns-in_err-put-2-clause-kept : goal.returns-in_err-put-2-clause-kept
returns-in_err-put-2-clause-kept c = refused_then c.from_residual-in_err-put-2.result (kept_then _ _ _ _ c.in_ok-put_scaled.ensures.lines (kept_then _ _ _ _ c.in_ok-put.ensures.lines (kept_then _ _ _ _ c.in_ok-put_op.ensures.lines c.in_err-put-2.ensures.kept)))

pub returns-in_err-put_op-in-Some-clause-kept : goal.returns-in_err-put_op-in-Some-clause-kept
returns-in_err-put_op-in-Some-clause-kept c = refused_then c.from_residual-in_err-put_op-in-Some.result (kept_then _ _ _ _ c.in_ok-put_scaled.ensures.lines (kept_then _ _ _ _ c.in_ok-put.ensures.lines (kept_then _ _ _ _ c.in_ok-put_op.ensures.lines (kept_then _ _ _ _ c.in_ok-put-2.ensures.lines c.in_err-put_op-in-Some.ensures.kept))))

pub returns-in_ok-put_op-in-Some-clause-kept : goal.returns-in_ok-put_op-in-Some-clause-kept
returns-in_ok-put_op-in-Some-clause-kept c = kept_last _ _ _ _ _ c.in_ok-put_scaled.ensures.lines (kept_last _ _ _ _ _ c.in_ok-put.ensures.lines (kept_last _ _ _ _ _ c.in_ok-put_op.ensures.lines (kept_last _ _ _ _ _ c.in_ok-put-2.ensures.lines (kept_last _ _ _ _ _ c.in_ok-put_op-in-Some.ensures.lines c.put-in-Some.ensures.kept))))

pub returns-in-None-clause-kept : goal.returns-in-None-clause-kept
returns-in-None-clause-kept c = kept_last _ _ _ _ _ c.in_ok-put_scaled.ensures.lines (kept_last _ _ _ _ _ c.in_ok-put.ensures.lines (kept_last _ _ _ _ _ c.in_ok-put_op.ensures.lines (kept_last _ _ _ _ _ c.in_ok-put-2.ensures.lines c.put-in-None.ensures.kept)))
