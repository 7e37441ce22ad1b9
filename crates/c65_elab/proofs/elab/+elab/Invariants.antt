use Rattle.std.proofs.Common.{◌≡◌, ◌≤◌, take, map, Ok}
use Rattle.c65_csem.specs.Views.{nodes_of}
use Rattle.c65_ctype.specs.Views.{qty_of, field_of}
use Rattle.c65_elab_declare.specs.Declarators.{formal_of}
use Rattle.c65_elab_declare.specs.Drafts.{draft_of}
use Rattle.c65_elab_scope.specs.Scopes.{scope_of}
use Rattle.c65_elab.proofs.Listing.{args_walk, drafts_walk, enums_walk, fields_walk, members_walk, params_walk}
use Rattle.c65_elab.proofs.elab.+elab.Given as goal

abbrev pub invariant-expressions-loop-expr : goal.invariant-expressions-loop-expr
invariant-expressions-loop-expr l = args_walk (scope_of l.fn.scope) (take l.expr-index l.list) ≡ Ok (nodes_of l.typed.items, scope_of l.scope)

abbrev pub invariant-drafted-loop-item : goal.invariant-drafted-loop-item
invariant-drafted-loop-item l = drafts_walk l.sole (scope_of l.fn.scope) (take l.item-index l.items) ≡ Ok (draft_of l.draft, scope_of l.scope)

abbrev pub invariant-enumerators-loop-item : goal.invariant-enumerators-loop-item
invariant-enumerators-loop-item l = enums_walk (scope_of l.fn.scope) (take l.item-index l.list) ≡ Ok (l.next, scope_of l.scope)

abbrev pub invariant-fields-loop-item : goal.invariant-fields-loop-item
invariant-fields-loop-item l = fields_walk (scope_of l.fn.scope) (take l.item-index l.list) ≡ Ok (map field_of l.all.items, scope_of l.scope)

abbrev pub invariant-members-loop-item : goal.invariant-members-loop-item
invariant-members-loop-item l = members_walk (map field_of l.fn.fields.items) (qty_of l.base) l.signed (scope_of l.fn.scope) (take l.item-index l.list) ≡ Ok (map field_of l.all.items, scope_of l.scope)

abbrev pub invariant-prototype-loop-param : goal.invariant-prototype-loop-param
invariant-prototype-loop-param l = record {
  walk : params_walk l.sole (scope_of l.fn.scope) (take l.param-index l.params) ≡ Ok ((map formal_of l.formals.items, l.bytes), scope_of l.scope);
  few : l.bytes ≤ 250;
}
