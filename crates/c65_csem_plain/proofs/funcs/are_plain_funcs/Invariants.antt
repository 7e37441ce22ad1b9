use Rattle.std.proofs.Common.{◌≡◌, drop, map, ◌++◌}
use Rattle.c65_csem.specs.Views.{func_of, unit_of}
use Rattle.c65_csem_plain.specs.Tests
use Rattle.c65_csem_plain.proofs.funcs.are_plain_funcs.Given as goal

abbrev pub invariant-loop-func : goal.invariant-loop-func
invariant-loop-func l = Tests.are_plain_funcs l.names (unit_of l.parts) (map func_of (drop l.func-index l.func-items)) ≡ Tests.are_plain_funcs l.names (unit_of l.parts) (unit_of l.parts).funcs
