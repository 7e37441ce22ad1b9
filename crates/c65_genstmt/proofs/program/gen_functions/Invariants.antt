use Rattle.std.proofs.Common.{◌≡◌, [], drop}
use Rattle.c65_genstmt.specs.Programs.{functions_from}
use Rattle.c65_genstmt.proofs.program.gen_functions.Given as goal

abbrev pub invariant-loop-number : goal.invariant-loop-number
invariant-loop-number l = functions_from l.parts l.main l.modes l.number (drop l.number l.parts.funcs.items) l.functions.items ≡ functions_from l.parts l.main l.modes 0 l.parts.funcs.items []
