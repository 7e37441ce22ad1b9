use Rattle.std.proofs.Common.{inr}
use Rattle.c65_live.proofs.border.are_same.Goals as goal

pub returns-then-is_same-clause-same : goal.returns-then-is_same-clause-same
returns-then-is_same-clause-same c h = record { next = inr (c.is_same.ensures c.if-is_same.true); jumps = c.lead_same.ensures h }
