use Rattle.std.proofs.Common.{◌≡◌, ◌-◌, length}
use Rattle.c65_elab_scope.specs.Scopes.{scope_of}
use Rattle.c65_init.specs.Units.{arrays_from, arrays_completed}
use Rattle.c65_init.proofs.unit.complete_arrays.Given as goal

-- what is left gives what the whole gives
abbrev pub invariant-loop-turn : goal.invariant-loop-turn
invariant-loop-turn l = arrays_from (length (scope_of l.fn.scope).unit.objects - l.turn) l.turn (scope_of l.scope) ≡ arrays_completed (scope_of l.fn.scope)
