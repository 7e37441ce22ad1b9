-- The depth and the nodes of one item of a list, as the list of it alone has them.
use Rattle.std.specs.Prelude.{ℕ}
use Rattle.c65_tree.specs.declared.expr.MemberDecl.{MemberDecl}
use Rattle.c65_tree.specs.declared.expr.MemberDeclarator.{MemberDeclarator}
use Rattle.c65_tree.specs.declared.expr.Enumerator.{Enumerator}
use Rattle.c65_tree.specs.declared.expr.Param.{Param}
use Rattle.c65_tree.specs.Trees.{no_member_decls, no_more_members, no_more_enumerators, no_more_params}
use Rattle.c65_tree.specs.View.{with_member_decl, with_member, with_enumerator, with_param}
use Rattle.c65_tree.specs.Depth.{member_decls_depth, member_list_depth, enumerator_list_depth, param_list_depth}
use Rattle.c65_tree.specs.Nodes.{member_decls_nodes, member_list_nodes, enumerator_list_nodes, param_list_nodes}

abbrev pub member_decl_depth : MemberDecl → ℕ
member_decl_depth d = member_decls_depth (with_member_decl no_member_decls d)

abbrev pub member_decl_nodes : MemberDecl → ℕ
member_decl_nodes d = member_decls_nodes (with_member_decl no_member_decls d)

abbrev pub one_member_depth : MemberDeclarator → ℕ
one_member_depth m = member_list_depth (with_member no_more_members m)

abbrev pub one_member_nodes : MemberDeclarator → ℕ
one_member_nodes m = member_list_nodes (with_member no_more_members m)

abbrev pub one_enumerator_depth : Enumerator → ℕ
one_enumerator_depth e = enumerator_list_depth (with_enumerator no_more_enumerators e)

abbrev pub one_enumerator_nodes : Enumerator → ℕ
one_enumerator_nodes e = enumerator_list_nodes (with_enumerator no_more_enumerators e)

abbrev pub param_depth : Param → ℕ
param_depth p = param_list_depth (with_param no_more_params p)

abbrev pub param_nodes : Param → ℕ
param_nodes p = param_list_nodes (with_param no_more_params p)
