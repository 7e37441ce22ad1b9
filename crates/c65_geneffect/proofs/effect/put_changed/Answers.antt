use Rattle.c65_genwide.proofs.Kept.{kept_then, kept_last, grown_then, grown_last, label_then, label_last, refused_then}
use Rattle.c65_geneffect.proofs.effect.put_changed.Goals as goal

pub returns-in_err-leave_out-in-Fixed-clause-kept : goal.returns-in_err-leave_out-in-Fixed-clause-kept
returns-in_err-leave_out-in-Fixed-clause-kept c = refused_then c.from_residual-in_err-leave_out-in-Fixed.result (label_then _ _ _ c.in_ok-label.ensures.draft (grown_then _ _ _ _ _ c.in_ok-put_base-in-Fixed.ensures.lines c.in_err-leave_out-in-Fixed.ensures.kept))

pub returns-in_ok-leave_out-in-Fixed-clause-kept : goal.returns-in_ok-leave_out-in-Fixed-clause-kept
returns-in_ok-leave_out-in-Fixed-clause-kept c = label_last _ _ _ _ c.in_ok-label.ensures.draft (grown_last _ _ _ _ _ _ c.in_ok-put_base-in-Fixed.ensures.lines (grown_last _ _ _ _ _ _ c.in_ok-leave_out-in-Fixed.ensures.lines c.put_change.ensures.kept))

pub returns-in_err-put_expr-in-Loaded-clause-kept : goal.returns-in_err-put_expr-in-Loaded-clause-kept
returns-in_err-put_expr-in-Loaded-clause-kept c = refused_then c.from_residual-in_err-put_expr-in-Loaded.result (label_then _ _ _ c.in_ok-label.ensures.draft (grown_then _ _ _ _ _ c.in_ok-put_base-in-Loaded.ensures.lines c.in_err-put_expr-in-Loaded.ensures.kept))

pub returns-in_ok-put_expr-in-Loaded-clause-kept : goal.returns-in_ok-put_expr-in-Loaded-clause-kept
returns-in_ok-put_expr-in-Loaded-clause-kept c = label_last _ _ _ _ c.in_ok-label.ensures.draft (grown_last _ _ _ _ _ _ c.in_ok-put_base-in-Loaded.ensures.lines (grown_last _ _ _ _ _ _ c.in_ok-put_expr-in-Loaded.ensures.lines c.put_change-in-Loaded.ensures.kept))

pub returns-in_ok-put_expr-in-Otherwise-clause-kept : goal.returns-in_ok-put_expr-in-Otherwise-clause-kept
returns-in_ok-put_expr-in-Otherwise-clause-kept c = label_last _ _ _ _ c.in_ok-label.ensures.draft (grown_last _ _ _ _ _ _ c.in_ok-put_expr-in-Otherwise.ensures.lines c.put.ensures.kept)

pub returns-in_err-put_base-in-Computed-clause-kept : goal.returns-in_err-put_base-in-Computed-clause-kept
returns-in_err-put_base-in-Computed-clause-kept c = refused_then c.from_residual-in_err-put_base-in-Computed.result (label_then _ _ _ c.in_ok-label.ensures.draft c.in_err-put_base-in-Computed.ensures.kept)

pub returns-in_err-leave_out-in-Computed-clause-kept : goal.returns-in_err-leave_out-in-Computed-clause-kept
returns-in_err-leave_out-in-Computed-clause-kept c = refused_then c.from_residual-in_err-leave_out-in-Computed.result (label_then _ _ _ c.in_ok-label.ensures.draft (grown_then _ _ _ _ _ c.in_ok-put_base-in-Computed.ensures.lines c.in_err-leave_out-in-Computed.ensures.kept))

pub returns-in_err-load-in-Computed-clause-kept : goal.returns-in_err-load-in-Computed-clause-kept
returns-in_err-load-in-Computed-clause-kept c = refused_then c.from_residual-in_err-load-in-Computed.result (label_then _ _ _ c.in_ok-label.ensures.draft (grown_then _ _ _ _ _ c.in_ok-put_base-in-Computed.ensures.lines (grown_then _ _ _ _ _ c.in_ok-leave_out-in-Computed.ensures.lines c.in_err-load-in-Computed.ensures.kept)))

pub returns-in_err-convert-in-Computed-clause-kept : goal.returns-in_err-convert-in-Computed-clause-kept
returns-in_err-convert-in-Computed-clause-kept c = refused_then c.from_residual-in_err-convert-in-Computed.result (label_then _ _ _ c.in_ok-label.ensures.draft (grown_then _ _ _ _ _ c.in_ok-put_base-in-Computed.ensures.lines (grown_then _ _ _ _ _ c.in_ok-leave_out-in-Computed.ensures.lines (kept_then _ _ _ _ c.in_ok-load-in-Computed.ensures.lines c.in_err-convert-in-Computed.ensures.kept))))

pub returns-in_err-put_form-in-Computed-clause-kept : goal.returns-in_err-put_form-in-Computed-clause-kept
returns-in_err-put_form-in-Computed-clause-kept c = refused_then c.from_residual-in_err-put_form-in-Computed.result (label_then _ _ _ c.in_ok-label.ensures.draft (grown_then _ _ _ _ _ c.in_ok-put_base-in-Computed.ensures.lines (grown_then _ _ _ _ _ c.in_ok-leave_out-in-Computed.ensures.lines (kept_then _ _ _ _ c.in_ok-load-in-Computed.ensures.lines (kept_then _ _ _ _ c.in_ok-convert-in-Computed.ensures.lines c.in_err-put_form-in-Computed.ensures.kept)))))

pub returns-in_err-convert-in-Computed-2-clause-kept : goal.returns-in_err-convert-in-Computed-2-clause-kept
returns-in_err-convert-in-Computed-2-clause-kept c = refused_then c.from_residual-in_err-convert-in-Computed-2.result (label_then _ _ _ c.in_ok-label.ensures.draft (grown_then _ _ _ _ _ c.in_ok-put_base-in-Computed.ensures.lines (grown_then _ _ _ _ _ c.in_ok-leave_out-in-Computed.ensures.lines (kept_then _ _ _ _ c.in_ok-load-in-Computed.ensures.lines (kept_then _ _ _ _ c.in_ok-convert-in-Computed.ensures.lines (kept_then _ _ _ _ c.in_ok-put_form-in-Computed.ensures.lines c.in_err-convert-in-Computed-2.ensures.kept))))))

pub returns-in_ok-convert-in-Computed-2-clause-kept : goal.returns-in_ok-convert-in-Computed-2-clause-kept
returns-in_ok-convert-in-Computed-2-clause-kept c = label_last _ _ _ _ c.in_ok-label.ensures.draft (grown_last _ _ _ _ _ _ c.in_ok-put_base-in-Computed.ensures.lines (grown_last _ _ _ _ _ _ c.in_ok-leave_out-in-Computed.ensures.lines (kept_last _ _ _ _ _ c.in_ok-load-in-Computed.ensures.lines (kept_last _ _ _ _ _ c.in_ok-convert-in-Computed.ensures.lines (kept_last _ _ _ _ _ c.in_ok-put_form-in-Computed.ensures.lines (kept_last _ _ _ _ _ c.in_ok-convert-in-Computed-2.ensures.lines c.store.ensures.kept))))))
