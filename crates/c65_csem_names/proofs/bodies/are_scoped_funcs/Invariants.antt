use Rattle.std.proofs.Common.{◌≡◌, drop, map}
use Rattle.c65_csem.specs.Views.{func_of, unit_of}
use Rattle.c65_csem_names.specs.Tests
use Rattle.c65_csem_names.proofs.bodies.are_scoped_funcs.Given as goal

abbrev pub invariant-loop-func : goal.invariant-loop-func
invariant-loop-func l = (Tests.are_scoped_funcs (unit_of l.parts) l.marks.items (map func_of (drop l.func-index l.func-items)) ≡ Tests.are_scoped_funcs (unit_of l.parts) l.fn.marks.items (unit_of l.parts).funcs) × (l.marks.items ≡ l.fn.marks.items)
