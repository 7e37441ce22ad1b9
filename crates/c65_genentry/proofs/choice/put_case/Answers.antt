use Rattle.c65_genwide.proofs.Kept.{kept_then}
use Rattle.c65_genentry.proofs.Kept.{labels_then, refused_then}
use Rattle.c65_genentry.proofs.choice.put_case.Goals as goal

pub returns-in_err-put_test-clause-kept : goal.returns-in_err-put_test-clause-kept
returns-in_err-put_test-clause-kept c = refused_then c.from_residual-in_err-put_test.result (labels_then _ _ _ 1 c.in_ok-other.ensures.given c.in_err-put_test.ensures.kept)

pub returns-in_err-label-clause-kept : goal.returns-in_err-label-clause-kept
returns-in_err-label-clause-kept c = refused_then c.from_residual-in_err-label.result (labels_then _ _ _ 1 c.in_ok-other.ensures.given (kept_then _ _ _ _ c.in_ok-put_test.ensures.lines c.in_err-label.ensures.kept))
