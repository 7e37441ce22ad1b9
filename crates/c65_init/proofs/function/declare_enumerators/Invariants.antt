use Rattle.std.proofs.Common.{◌≡◌, drop}
use Rattle.c65_elab_scope.specs.Scopes.{scope_of}
use Rattle.c65_init.proofs.Lists.{enumerators_walk}
use Rattle.c65_init.proofs.function.declare_enumerators.Given as goal

-- what is left gives what the whole gives
abbrev pub invariant-loop-enumerator : goal.invariant-loop-enumerator
invariant-loop-enumerator l = enumerators_walk l.pos (drop l.enumerator-index l.list) (scope_of l.scope) ≡ enumerators_walk l.pos l.list (scope_of l.fn.scope)
