use Rattle.std.proofs.Common.{◌≡◌, drop}
use Rattle.std.proofs.Common.{map}
use Rattle.c65_elab_scope.specs.Scopes.{scope_of}
use Rattle.c65_init.specs.Parameters.{old_of}
use Rattle.c65_init.proofs.Lists.{old_decls_walk}
use Rattle.c65_init.proofs.old_style.old_declarations.Given as goal

-- what is left gives what the whole gives
abbrev pub invariant-loop-item : goal.invariant-loop-item
invariant-loop-item l = old_decls_walk (drop l.item-index l.items) (map old_of l.list.items, scope_of l.scope) ≡ old_decls_walk l.items (map old_of l.fn.list.items, scope_of l.fn.scope)
