use Rattle.std.proofs.Common.{◌≡◌, ◌++◌, drop}
use Rattle.c65_asm.specs.Text.{datums_text}
use Rattle.c65_asm.proofs.printing.put_datums.Given as goal

abbrev pub invariant-loop-datum : goal.invariant-loop-datum
invariant-loop-datum l = l.out.items ++ datums_text l.symbols (drop l.datum-index l.datums) ≡ l.initial.out.items ++ datums_text l.symbols l.datums
