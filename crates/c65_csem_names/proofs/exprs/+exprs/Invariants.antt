use Rattle.std.proofs.Common.{◌≡◌, drop}
use Rattle.c65_csem.specs.Views.{nodes_of, unit_of}
use Rattle.c65_csem_names.specs.Tests
use Rattle.c65_csem_names.proofs.exprs.+exprs.Given as goal

abbrev pub invariant-are_scoped_in-loop-argument : goal.invariant-are_scoped_in-loop-argument
invariant-are_scoped_in-loop-argument l = Tests.are_scoped_in (unit_of l.parts) l.variadic l.marks (nodes_of (drop l.argument-index l.arguments)) ≡ Tests.are_scoped_in (unit_of l.parts) l.variadic l.marks (nodes_of l.arguments)
