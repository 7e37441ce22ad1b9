use Rattle.std.proofs.Common.{◌≡◌, drop, map, ◌++◌}
use Rattle.c65_csem.specs.Views.{unit_of}
use Rattle.c65_csem_plain.specs.Tests
use Rattle.c65_csem_plain.proofs.objects.all_bytes.Given as goal

abbrev pub invariant-loop-literal : goal.invariant-loop-literal
invariant-loop-literal l = Tests.all_bytes (drop l.literal-index l.literal-items) ≡ Tests.all_bytes (unit_of l.parts).literals
