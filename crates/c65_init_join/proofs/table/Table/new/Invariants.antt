use Rattle.std.proofs.Common.{◌≡◌, map}
use Rattle.std.specs.Prelude.{replicate}
use Rattle.c65_init_join.specs.Tables.{external_of, undeclared}
use Rattle.c65_init_join.proofs.table.Table.new.Given as goal

abbrev pub invariant-loop-name : goal.invariant-loop-name
invariant-loop-name l = map external_of l.externals.items ≡ replicate l._name undeclared
