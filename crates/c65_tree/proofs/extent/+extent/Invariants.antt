use Rattle.std.proofs.Common.{◌≡◌, take}
use Rattle.std.specs.Prelude.{min}
use Rattle.c65_tree.specs.Lists.{deepest, total}
use Rattle.c65_tree.specs.Depth.{expr_depth, specifier_depth}
use Rattle.c65_tree.specs.Nodes.{expr_nodes, specifier_nodes}
use Rattle.c65_tree.specs.Parts.{member_decl_depth, member_decl_nodes, one_member_depth, one_member_nodes, one_enumerator_depth, one_enumerator_nodes, param_depth, param_nodes}
use Rattle.c65_tree.specs.View.{expr_of, specifier_of}
use Rattle.c65_tree.proofs.extent.+extent.Given as goal

abbrev pub invariant-exprs_extent-loop-e : goal.invariant-exprs_extent-loop-e
invariant-exprs_extent-loop-e l = record {
  depth : l.all.depth ≡ min (deepest (λ e. expr_depth (expr_of e)) (take l.e-index l.exprs)) 4294967295;
  nodes : l.all.nodes ≡ min (total (λ e. expr_nodes (expr_of e)) (take l.e-index l.exprs)) 18446744073709551615;
}

abbrev pub invariant-items_extent-loop-item : goal.invariant-items_extent-loop-item
invariant-items_extent-loop-item l = record {
  depth : l.all.depth ≡ min (deepest (λ q. specifier_depth (specifier_of q)) (take l.item-index l.items)) 4294967295;
  nodes : l.all.nodes ≡ min (total (λ q. specifier_nodes (specifier_of q)) (take l.item-index l.items)) 18446744073709551615;
}

abbrev pub invariant-member_decls_extent-loop-decl : goal.invariant-member_decls_extent-loop-decl
invariant-member_decls_extent-loop-decl l = record {
  depth : l.all.depth ≡ min (deepest member_decl_depth (take l.decl-index l.decls)) 4294967295;
  nodes : l.all.nodes ≡ min (total member_decl_nodes (take l.decl-index l.decls)) 18446744073709551615;
}

abbrev pub invariant-members_extent-loop-member : goal.invariant-members_extent-loop-member
invariant-members_extent-loop-member l = record {
  depth : l.all.depth ≡ min (deepest one_member_depth (take l.member-index l.members)) 4294967295;
  nodes : l.all.nodes ≡ min (total one_member_nodes (take l.member-index l.members)) 18446744073709551615;
}

abbrev pub invariant-enumerators_extent-loop-enumerator : goal.invariant-enumerators_extent-loop-enumerator
invariant-enumerators_extent-loop-enumerator l = record {
  depth : l.all.depth ≡ min (deepest one_enumerator_depth (take l.enumerator-index l.enumerators)) 4294967295;
  nodes : l.all.nodes ≡ min (total one_enumerator_nodes (take l.enumerator-index l.enumerators)) 18446744073709551615;
}

abbrev pub invariant-param_types_extent-loop-param : goal.invariant-param_types_extent-loop-param
invariant-param_types_extent-loop-param l = record {
  depth : l.all.depth ≡ min (deepest param_depth (take l.param-index l.params)) 4294967295;
  nodes : l.all.nodes ≡ min (total param_nodes (take l.param-index l.params)) 18446744073709551615;
}
