use Rattle.std.proofs.Common.{◌≡◌, drop}
use Rattle.c65_csem.specs.Views.{stmts_of, unit_of}
use Rattle.c65_csem_names.specs.Tests
use Rattle.c65_csem_names.proofs.stmts.+stmts.Given as goal

abbrev pub invariant-are_scoped-loop-stmt : goal.invariant-are_scoped-loop-stmt
invariant-are_scoped-loop-stmt l = (Tests.are_scoped (unit_of l.parts) l.variadic l.marks.items (stmts_of (drop l.stmt-index l.stmts)) ≡ Tests.are_scoped (unit_of l.parts) l.variadic l.fn.marks.items (stmts_of l.stmts)) × (l.marks.items ≡ l.fn.marks.items)
