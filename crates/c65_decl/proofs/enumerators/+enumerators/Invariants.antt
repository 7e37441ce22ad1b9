use Rattle.std.proofs.Common.{◌≡◌, drop}
use Rattle.c65_decl.specs.Enumerators.{each, one_expr, one_specifier, one_member_decl, one_member, one_enumerator}
use Rattle.c65_decl.proofs.enumerators.+enumerators.Given as goal

abbrev pub invariant-in_exprs-loop-e : goal.invariant-in_exprs-loop-e
invariant-in_exprs-loop-e l = each one_expr l.all.items (drop l.e-index l.exprs) ≡ each one_expr l.fn.names.items l.exprs

abbrev pub invariant-in_items-loop-item : goal.invariant-in_items-loop-item
invariant-in_items-loop-item l = each one_specifier l.all.items (drop l.item-index l.items) ≡ each one_specifier l.fn.names.items l.items

abbrev pub invariant-in_member_decls-loop-decl : goal.invariant-in_member_decls-loop-decl
invariant-in_member_decls-loop-decl l = each one_member_decl l.all.items (drop l.decl-index l.decls) ≡ each one_member_decl l.fn.names.items l.decls

abbrev pub invariant-in_members-loop-member : goal.invariant-in_members-loop-member
invariant-in_members-loop-member l = each one_member l.all.items (drop l.member-index l.members) ≡ each one_member l.fn.names.items l.members

abbrev pub invariant-in_enumerators-loop-enumerator : goal.invariant-in_enumerators-loop-enumerator
invariant-in_enumerators-loop-enumerator l = each one_enumerator l.all.items (drop l.enumerator-index l.enumerators) ≡ each one_enumerator l.fn.names.items l.enumerators
