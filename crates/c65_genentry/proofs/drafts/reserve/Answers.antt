use Rattle.c65_genentry.proofs.Kept.{labels_then, refused_then}
use Rattle.c65_genentry.proofs.drafts.reserve.Goals as goal

pub returns-in_err-fresh-clause-kept : goal.returns-in_err-fresh-clause-kept
returns-in_err-fresh-clause-kept c = refused_then c.from_residual.result (labels_then c.args.draft.now c.loop-round.draft c.fresh.new.draft c.loop-round._round c.loop-round.invariant c.in_err-fresh.ensures.kept)
