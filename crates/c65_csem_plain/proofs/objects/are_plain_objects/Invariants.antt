use Rattle.std.proofs.Common.{◌≡◌, drop, map, ◌++◌}
use Rattle.c65_csem.specs.Views.{object_of, unit_of}
use Rattle.c65_csem_plain.specs.Tests
use Rattle.c65_csem_plain.proofs.objects.are_plain_objects.Given as goal

abbrev pub invariant-loop-object : goal.invariant-loop-object
invariant-loop-object l = Tests.are_plain_objects l.names (unit_of l.parts) (map object_of (drop l.object-index l.object-items)) ≡ Tests.are_plain_objects l.names (unit_of l.parts) (unit_of l.parts).objects
