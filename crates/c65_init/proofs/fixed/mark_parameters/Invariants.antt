use Rattle.std.proofs.Common.{◌≡◌, drop, map}
use Rattle.c65_csem.specs.Views.{func_of}
use Rattle.c65_init.specs.Fixed.{parameters_marked}
use Rattle.c65_init.proofs.fixed.mark_parameters.Given as goal

-- what is left gives what the whole gives
abbrev pub invariant-loop-func : goal.invariant-loop-func
invariant-loop-func l = parameters_marked l.marks.items (map func_of (drop l.func-index l.funcs)) ≡ parameters_marked l.initial.marks.items (map func_of l.funcs)
