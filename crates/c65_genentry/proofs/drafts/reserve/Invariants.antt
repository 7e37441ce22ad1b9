use Rattle.std.proofs.Common.{◌≡◌}
use Rattle.c65_genentry.specs.Drafts.{with_labels}
use Rattle.c65_genentry.proofs.drafts.reserve.Given as goal

abbrev pub invariant-loop-round : goal.invariant-loop-round
invariant-loop-round l = l.draft ≡ with_labels l._round l.initial.draft
