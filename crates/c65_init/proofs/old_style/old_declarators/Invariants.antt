use Rattle.std.proofs.Common.{◌≡◌, drop}
use Rattle.c65_ctype.specs.Views.{qty_of}
use Rattle.std.proofs.Common.{map}
use Rattle.c65_elab_scope.specs.Scopes.{scope_of}
use Rattle.c65_init.specs.Parameters.{old_of}
use Rattle.c65_init.proofs.Lists.{olds_walk}
use Rattle.c65_init.proofs.old_style.old_declarators.Given as goal

-- what is left gives what the whole gives
abbrev pub invariant-loop-item : goal.invariant-loop-item
invariant-loop-item l = olds_walk l.is_register (qty_of l.base) (drop l.item-index l.items) (map old_of l.list.items, scope_of l.scope) ≡ olds_walk l.is_register (qty_of l.base) l.items (map old_of l.fn.list.items, scope_of l.fn.scope)
