use Rattle.std.proofs.Common.{◌≡◌, drop, map, ◌++◌}
use Rattle.c65_csem_plain.specs.Tests
use Rattle.c65_csem_plain.proofs.initial.are_bytes.Given as goal

abbrev pub invariant-loop-byte : goal.invariant-loop-byte
invariant-loop-byte l = Tests.are_bytes (drop l.byte-index l.bytes) ≡ Tests.are_bytes l.bytes
