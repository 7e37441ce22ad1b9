use Rattle.std.proofs.Common.{◌≡◌, [], drop}
use Rattle.c65_asm_fit.specs.Once.{comes_once, has_number}
use Rattle.c65_asm_fit.proofs.code.are_once.Given as goal

abbrev pub invariant-loop-number : goal.invariant-loop-number
invariant-loop-number l = comes_once has_number l.seen.keys (drop l.number-index l.numbers) ≡ comes_once has_number [] l.numbers
