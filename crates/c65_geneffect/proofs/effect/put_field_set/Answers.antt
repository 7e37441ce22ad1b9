use Rattle.c65_genwide.proofs.Kept.{kept_then, kept_last, grown_then, grown_last, refused_then}
use Rattle.c65_geneffect.proofs.effect.put_field_set.Goals as goal

pub returns-in_err-leave_out-in-Number-clause-kept : goal.returns-in_err-leave_out-in-Number-clause-kept
returns-in_err-leave_out-in-Number-clause-kept c = refused_then c.from_residual-in_err-leave_out-in-Number.result (grown_then _ _ _ _ _ c.in_ok-put_base-in-Number.ensures.lines c.in_err-leave_out-in-Number.ensures.kept)

pub returns-in_ok-leave_out-in-Number-clause-kept : goal.returns-in_ok-leave_out-in-Number-clause-kept
returns-in_ok-leave_out-in-Number-clause-kept c = grown_last _ _ _ _ _ _ c.in_ok-put_base-in-Number.ensures.lines (grown_last _ _ _ _ _ _ c.in_ok-leave_out-in-Number.ensures.lines c.put_set_number.ensures.kept)

pub returns-in_err-put_keep-in-Held-clause-kept : goal.returns-in_err-put_keep-in-Held-clause-kept
returns-in_err-put_keep-in-Held-clause-kept c = refused_then c.from_residual-in_err-put_keep-in-Held.result (grown_then _ _ _ _ _ c.in_ok-put_base-in-Held.ensures.lines c.in_err-put_keep-in-Held.ensures.kept)

pub returns-in_err-put_expr-in-Held-clause-kept : goal.returns-in_err-put_expr-in-Held-clause-kept
returns-in_err-put_expr-in-Held-clause-kept c = refused_then c.from_residual-in_err-put_expr-in-Held.result (grown_then _ _ _ _ _ c.in_ok-put_base-in-Held.ensures.lines (kept_then _ _ _ _ c.in_ok-put_keep-in-Held.ensures.lines c.in_err-put_expr-in-Held.ensures.kept))

pub returns-in_ok-put_expr-in-Held-clause-kept : goal.returns-in_ok-put_expr-in-Held-clause-kept
returns-in_ok-put_expr-in-Held-clause-kept c = grown_last _ _ _ _ _ _ c.in_ok-put_base-in-Held.ensures.lines (kept_last _ _ _ _ _ c.in_ok-put_keep-in-Held.ensures.lines (grown_last _ _ _ _ _ _ c.in_ok-put_expr-in-Held.ensures.lines c.put_behind.ensures.kept))

pub returns-in_err-hold-in-Loaded-clause-kept : goal.returns-in_err-hold-in-Loaded-clause-kept
returns-in_err-hold-in-Loaded-clause-kept c = refused_then c.from_residual-in_err-hold-in-Loaded.result (grown_then _ _ _ _ _ c.in_ok-put_base-in-Loaded.ensures.lines c.in_err-hold-in-Loaded.ensures.kept)

pub returns-in_err-put_expr-in-Loaded-clause-kept : goal.returns-in_err-put_expr-in-Loaded-clause-kept
returns-in_err-put_expr-in-Loaded-clause-kept c = refused_then c.from_residual-in_err-put_expr-in-Loaded.result (grown_then _ _ _ _ _ c.in_ok-put_base-in-Loaded.ensures.lines (kept_then _ _ _ _ c.in_ok-hold-in-Loaded.ensures.lines c.in_err-put_expr-in-Loaded.ensures.kept))

pub returns-in_ok-put_expr-in-Loaded-clause-kept : goal.returns-in_ok-put_expr-in-Loaded-clause-kept
returns-in_ok-put_expr-in-Loaded-clause-kept c = grown_last _ _ _ _ _ _ c.in_ok-put_base-in-Loaded.ensures.lines (kept_last _ _ _ _ _ c.in_ok-hold-in-Loaded.ensures.lines (grown_last _ _ _ _ _ _ c.in_ok-put_expr-in-Loaded.ensures.lines c.put_set.ensures.kept))
