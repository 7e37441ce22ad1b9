use Rattle.std.proofs.Common.{◌≡◌, ◌++◌, drop}
use Rattle.c65_code.specs.Literals.{literals_of}
use Rattle.c65_code.proofs.gather.literals.Given as goal

abbrev pub invariant-loop-datum : goal.invariant-loop-datum
invariant-loop-datum l = l.items.items ++ literals_of l.code.symbols (drop l.datum-index l.datum-items) ≡ literals_of l.code.symbols l.code.datums
