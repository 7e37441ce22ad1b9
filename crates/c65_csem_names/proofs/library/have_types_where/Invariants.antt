use Rattle.std.proofs.Common.{◌≡◌, drop, map}
use Rattle.c65_csem.specs.Views.{func_of, unit_of}
use Rattle.c65_csem_names.specs.Tests
use Rattle.c65_csem_names.proofs.library.have_types_where.Given as goal

abbrev pub invariant-loop-func : goal.invariant-loop-func
invariant-loop-func l = Tests.have_types_where l.signed_chars (map func_of (drop l.func-index l.func-items)) ≡ Tests.have_types_where l.signed_chars (unit_of l.parts).funcs
