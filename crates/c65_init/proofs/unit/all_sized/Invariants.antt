use Rattle.std.proofs.Common.{◌≡◌, drop}
use Rattle.c65_elab_scope.specs.Scopes.{scope_of}
use Rattle.c65_init.specs.Units.{all_sized}
use Rattle.c65_init.proofs.unit.all_sized.Given as goal

-- what is left gives what the whole gives
abbrev pub invariant-loop-definition : goal.invariant-loop-definition
invariant-loop-definition l = all_sized (drop l.definition-index l.definitions) (scope_of l.scope) ≡ all_sized l.definitions (scope_of l.scope)
