use Rattle.std.proofs.Common.{◌≡◌, drop}
use Rattle.c65_elab_scope.specs.Scopes.{scope_of}
use Rattle.c65_init.specs.Declarations.{locals_of}
use Rattle.c65_init.proofs.Lists.{items_walk}
use Rattle.c65_init.proofs.unit.externals.Given as goal

-- what is left gives what the whole gives
abbrev pub invariant-loop-item : goal.invariant-loop-item
invariant-loop-item l = items_walk (drop l.item-index l.items) (locals_of l.locals, scope_of l.scope) ≡ items_walk l.items (locals_of l.fn.locals, scope_of l.fn.scope)
