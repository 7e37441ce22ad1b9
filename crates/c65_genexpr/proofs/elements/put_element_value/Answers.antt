use Rattle.c65_genwide.proofs.Kept.{kept_then, kept_last, refused_then}
use Rattle.c65_genexpr.proofs.elements.put_element_value.Goals as goal

pub returns-in_err-put_element_bytes-clause-kept : goal.returns-in_err-put_element_bytes-clause-kept
returns-in_err-put_element_bytes-clause-kept c = refused_then c.from_residual-in_err-put_element_bytes.result (kept_then _ _ _ _ c.in_ok-put_scaled.ensures.lines (kept_then _ _ _ _ c.in_ok-put.ensures.lines c.in_err-put_element_bytes.ensures.kept))

pub returns-clause-kept : goal.returns-clause-kept
returns-clause-kept c = kept_last _ _ _ _ _ c.in_ok-put_scaled.ensures.lines (kept_last _ _ _ _ _ c.in_ok-put.ensures.lines (kept_last _ _ _ _ _ c.in_ok-put_element_bytes.ensures.lines c.narrow.ensures.kept))
