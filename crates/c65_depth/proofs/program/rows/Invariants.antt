use Rattle.std.proofs.Common.{◌≡◌}
use Rattle.c65_depth.specs.Numbers.{row_of}
use Rattle.c65_depth.specs.Tables.{some_of}
use Rattle.c65_depth.proofs.program.rows.Given as goal

abbrev pub invariant-loop-func : goal.invariant-loop-func
invariant-loop-func l = l.rows.items ≡ some_of l.func (row_of l.graph l.standings l.all)
