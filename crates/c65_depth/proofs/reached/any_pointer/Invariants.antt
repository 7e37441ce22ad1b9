use Rattle.std.proofs.Common.{◌≡◌, drop}
use Rattle.std.specs.List.{list_any}
use Rattle.std.specs.Prelude.{is_none}
use Rattle.c65_depth.proofs.reached.any_pointer.Given as goal

abbrev pub invariant-loop-call : goal.invariant-loop-call
invariant-loop-call l = list_any (λ c. is_none c.callee) (drop l.call-index l.calls) ≡ list_any (λ c. is_none c.callee) l.calls
