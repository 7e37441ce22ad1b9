use Rattle.std.proofs.Common.{◌≡◌, ◌++◌, map, drop}
use Rattle.c65_csem.specs.Views.{stmt_of}
use Rattle.c65_init_cells.specs.Sinks.{byte_sets}
use Rattle.c65_init_cells.proofs.sink.begin_automatic.Given as goal

-- the statements so far and those that are left
abbrev pub invariant-loop-stmt : goal.invariant-loop-stmt
invariant-loop-stmt l = map stmt_of l.stmts.items ++ map stmt_of l.stmt-iterator.rest.items ≡ map stmt_of l.initial.stmts.items ++ map stmt_of l.initial.stmt-iterator.rest.items

-- the statements so far and those of the bytes that are left
abbrev pub invariant-loop-cell : goal.invariant-loop-cell
invariant-loop-cell l = map stmt_of l.stmts.items ++ byte_sets l.object l.offset (drop l.cell-index l.cell-items) ≡ map stmt_of l.initial.stmts.items ++ byte_sets l.object l.initial.offset l.cell-items
