use Rattle.std.proofs.Common.{◌≡◌, ◌++◌, drop, map}
use Rattle.c65_asm_fit.specs.Fit.{function_number, datum_number, defined}
use Rattle.c65_asm_fit.proofs.code.defined.Given as goal

abbrev pub invariant-loop-function : goal.invariant-loop-function
invariant-loop-function l = l.numbers.items ++ map function_number (drop l.function-index l.functions) ≡ map function_number l.functions

abbrev pub invariant-loop-datum : goal.invariant-loop-datum
invariant-loop-datum l = l.numbers.items ++ map datum_number (drop l.datum-index l.datums) ≡ defined l.functions l.datums
