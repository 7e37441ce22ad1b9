use Rattle.c65_genwide.proofs.Kept.{grown_then, grown_last, refused_then}
use Rattle.c65_geneffect.proofs.effect.put_filled.Goals as goal

pub returns-in_err-leave_out-in-Some-clause-kept : goal.returns-in_err-leave_out-in-Some-clause-kept
returns-in_err-leave_out-in-Some-clause-kept c = refused_then c.from_residual-in_err-leave_out-in-Some.result (grown_then _ _ _ _ _ c.in_ok-put_base-in-Some.ensures.lines c.in_err-leave_out-in-Some.ensures.kept)

pub returns-in_ok-leave_out-in-Some-clause-kept : goal.returns-in_ok-leave_out-in-Some-clause-kept
returns-in_ok-leave_out-in-Some-clause-kept c = grown_last _ _ _ _ _ _ c.in_ok-put_base-in-Some.ensures.lines (grown_last _ _ _ _ _ _ c.in_ok-leave_out-in-Some.ensures.lines c.put_fill.ensures.kept)
