use Rattle.std.proofs.Common.{◌≡◌, drop}
use Rattle.std.specs.List.{list_any}
use Rattle.c65_depth.specs.Reached.{leads_by}
use Rattle.c65_depth.proofs.reached.any_leads.Given as goal

abbrev pub invariant-loop-call : goal.invariant-loop-call
invariant-loop-call l = list_any (λ c. leads_by l.to l.marks c.callee) (drop l.call-index l.calls) ≡ list_any (λ c. leads_by l.to l.marks c.callee) l.calls
