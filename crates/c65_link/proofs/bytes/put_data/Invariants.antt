use Rattle.std.proofs.Common.{◌≡◌, ◌++◌, drop}
use Rattle.c65_link.specs.Bytes.{data_bytes}
use Rattle.c65_link.proofs.bytes.put_data.Given as goal

abbrev pub invariant-loop-datum : goal.invariant-loop-datum
invariant-loop-datum l = l.out.items ++ data_bytes l.symbols (drop l.datum-index l.datums) ≡ l.initial.out.items ++ data_bytes l.symbols l.datums
