use Rattle.std.proofs.Common.{◌≡◌, drop, map, ◌++◌}
use Rattle.c65_csem.specs.Views.{stmts_of, unit_of}
use Rattle.c65_csem_plain.specs.Tests
use Rattle.c65_csem_plain.proofs.stmts.+stmts.Given as goal

abbrev pub invariant-are_plain_stmts-loop-stmt : goal.invariant-are_plain_stmts-loop-stmt
invariant-are_plain_stmts-loop-stmt l = Tests.are_plain_stmts (unit_of l.parts) l.own (stmts_of (drop l.stmt-index l.stmts)) ≡ Tests.are_plain_stmts (unit_of l.parts) l.own (stmts_of l.stmts)
