use Rattle.std.proofs.Common.{◌≡◌, [], map}
use Rattle.c65_elab_scope.specs.Scopes.{scope_of}
use Rattle.c65_init.specs.Parameters.{old_of, olds_declared}
use Rattle.c65_init.proofs.params.old_parameters.Given as goal

-- what is left gives what the whole gives
abbrev pub invariant-loop-old : goal.invariant-loop-old
invariant-loop-old l = olds_declared (map old_of l.old-iterator.rest.items) l.objects.items (scope_of l.scope) ≡ olds_declared (map old_of l.initial.old-iterator.rest.items) [] (scope_of l.fn.scope)
