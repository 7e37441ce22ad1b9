use Rattle.std.proofs.Common.{◌≡◌, ◌-◌, length}
use Rattle.c65_elab_scope.specs.Scopes.{scope_of}
use Rattle.c65_init.specs.Settled.{functions_from, functions_settled}
use Rattle.c65_init.proofs.settle.settle_functions.Given as goal

-- what is left gives what the whole gives
abbrev pub invariant-loop-turn : goal.invariant-loop-turn
invariant-loop-turn l = functions_from (length (scope_of l.fn.scope).unit.funcs - l.turn) l.turn (scope_of l.scope) ≡ functions_settled (scope_of l.fn.scope)
