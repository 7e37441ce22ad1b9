use Rattle.std.proofs.Common.{◌≡◌, [], drop}
use Rattle.c65_csem_plain.specs.Tests
use Rattle.c65_csem_plain.proofs.apart.come_once.Given as goal

abbrev pub invariant-loop-number : goal.invariant-loop-number
invariant-loop-number l = Tests.come_once l.seen.keys (drop l.number-index l.numbers) ≡ Tests.come_once [] l.numbers
