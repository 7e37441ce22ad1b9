use Rattle.std.proofs.Common.{◌≡◌, drop, map, ◌++◌}
use Rattle.c65_ctype.specs.Views.{types_of}
use Rattle.c65_csem.specs.Views.{nodes_of}
use Rattle.c65_csem_plain.specs.Tests
use Rattle.c65_csem_plain.proofs.exprs.+exprs.Given as goal

abbrev pub invariant-are_plain_in-loop-argument : goal.invariant-are_plain_in-loop-argument
invariant-are_plain_in-loop-argument l = Tests.are_plain_in (types_of l.types) (nodes_of (drop l.argument-index l.arguments)) ≡ Tests.are_plain_in (types_of l.types) (nodes_of l.arguments)
