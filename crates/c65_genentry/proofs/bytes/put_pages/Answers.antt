use Rattle.c65_genwide.proofs.Kept.{kept_then, kept_last}
use Rattle.c65_genentry.proofs.Kept.{labels_then, labels_last, refused_then}
use Rattle.c65_genentry.proofs.bytes.put_pages.Goals as goal

pub returns-in_err-put-clause-kept : goal.returns-in_err-put-clause-kept
returns-in_err-put-clause-kept c = refused_then c.from_residual-in_err-put.result (labels_then _ _ _ 1 c.in_ok-head.ensures.given c.in_err-put.ensures.kept)

pub returns-in_err-label-clause-kept : goal.returns-in_err-label-clause-kept
returns-in_err-label-clause-kept c = refused_then c.from_residual-in_err-label.result (labels_then _ _ _ 1 c.in_ok-head.ensures.given (kept_then _ _ _ _ c.in_ok-put.ensures.lines c.in_err-label.ensures.kept))

pub returns-in_err-put-2-clause-kept : goal.returns-in_err-put-2-clause-kept
returns-in_err-put-2-clause-kept c = refused_then c.from_residual-in_err-put-2.result (labels_then _ _ _ 1 c.in_ok-head.ensures.given (kept_then _ _ _ _ c.in_ok-put.ensures.lines (kept_then _ _ _ _ c.in_ok-label.ensures.lines c.in_err-put-2.ensures.kept)))

pub returns-in_err-put-3-clause-kept : goal.returns-in_err-put-3-clause-kept
returns-in_err-put-3-clause-kept c = refused_then c.from_residual-in_err-put-3.result (labels_then _ _ _ 1 c.in_ok-head.ensures.given (kept_then _ _ _ _ c.in_ok-put.ensures.lines (kept_then _ _ _ _ c.in_ok-label.ensures.lines (kept_then _ _ _ _ c.in_ok-put-2.ensures.lines c.in_err-put-3.ensures.kept))))

pub returns-in_err-put-4-clause-kept : goal.returns-in_err-put-4-clause-kept
returns-in_err-put-4-clause-kept c = refused_then c.from_residual-in_err-put-4.result (labels_then _ _ _ 1 c.in_ok-head.ensures.given (kept_then _ _ _ _ c.in_ok-put.ensures.lines (kept_then _ _ _ _ c.in_ok-label.ensures.lines (kept_then _ _ _ _ c.in_ok-put-2.ensures.lines (kept_then _ _ _ _ c.in_ok-put-3.ensures.lines c.in_err-put-4.ensures.kept)))))

pub returns-clause-kept : goal.returns-clause-kept
returns-clause-kept c = labels_last _ _ _ _ 1 c.in_ok-head.ensures.given (kept_last _ _ _ _ _ c.in_ok-put.ensures.lines (kept_last _ _ _ _ _ c.in_ok-label.ensures.lines (kept_last _ _ _ _ _ c.in_ok-put-2.ensures.lines (kept_last _ _ _ _ _ c.in_ok-put-3.ensures.lines (kept_last _ _ _ _ _ c.in_ok-put-4.ensures.lines c.put-6.ensures.kept)))))
