use Rattle.std.proofs.Common.{◌≡◌, drop}
use Rattle.c65_link.specs.Layouts.{with_all_data}
use Rattle.c65_link.proofs.layout.Layout.put_all_data.Given as goal

abbrev pub invariant-loop-datum : goal.invariant-loop-datum
invariant-loop-datum l = with_all_data l.self (drop l.datum-index l.datums) ≡ with_all_data l.initial.self l.datums
