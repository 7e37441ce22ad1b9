use Rattle.c65_genwide.proofs.Kept.{kept_then, kept_last, refused_then}
use Rattle.c65_genexpr.proofs.elements.put_element_test.Goals as goal

pub returns-in_err-put_either_byte-clause-kept : goal.returns-in_err-put_either_byte-clause-kept
returns-in_err-put_either_byte-clause-kept c = refused_then c.from_residual-in_err-put_either_byte.result (kept_then _ _ _ _ c.in_ok-put_scaled.ensures.lines (kept_then _ _ _ _ c.in_ok-put.ensures.lines c.in_err-put_either_byte.ensures.kept))

pub returns-clause-kept : goal.returns-clause-kept
returns-clause-kept c = kept_last _ _ _ _ _ c.in_ok-put_scaled.ensures.lines (kept_last _ _ _ _ _ c.in_ok-put.ensures.lines (kept_last _ _ _ _ _ c.in_ok-put_either_byte.ensures.lines c.put_branch.ensures.kept))
