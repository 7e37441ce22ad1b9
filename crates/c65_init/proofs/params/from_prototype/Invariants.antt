use Rattle.std.proofs.Common.{◌≡◌, [], map}
use Rattle.c65_elab_scope.specs.Scopes.{scope_of}
use Rattle.c65_elab_declare.specs.Declarators.{formal_of}
use Rattle.c65_init.specs.Parameters.{formals_declared}
use Rattle.c65_init.proofs.params.from_prototype.Given as goal

-- what is left gives what the whole gives
abbrev pub invariant-loop-formal : goal.invariant-loop-formal
invariant-loop-formal l = formals_declared (map formal_of l.formal-iterator.rest.items) l.objects.items (scope_of l.scope) ≡ formals_declared (map formal_of l.initial.formal-iterator.rest.items) [] (scope_of l.fn.scope)
