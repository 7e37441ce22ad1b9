use Rattle.std.proofs.Common.{◌≡◌, ◌++◌, drop}
use Rattle.c65_asm.specs.Text.{functions_with}
use Rattle.c65_asm.specs.Known.{body_by}
use Rattle.c65_asm.proofs.texts.put_functions.Given as goal

abbrev pub invariant-loop-function : goal.invariant-loop-function
invariant-loop-function l = l.out.items ++ functions_with (body_by l.noted) l.symbols (drop l.function-index l.functions) ≡ l.initial.out.items ++ functions_with (body_by l.noted) l.symbols l.functions
