-- Each tree is read.
use Rattle.std.specs.Prelude.{ℕ}
use Rattle.c65_tree.specs.Trees as t
use Rattle.c65_parse_law_trees.proofs.Readings.{ReadsExpr, ReadsMaybe, ReadsExprs, ReadsType, ReadsList, ReadsSpecifiers, ReadsSpecifier, ReadsDecls, ReadsMembers_in, ReadsMembers, ReadsEnumerators, ReadsEnumerators_in, ReadsDeclarator, ReadsMaybeDeclarator, ReadsParams, ReadsParamsTree}
use Rattle.c65_parse_law_trees.proofs.Exprs.{reads_name, reads_number, reads_text, reads_index, reads_member, reads_step, reads_unary, reads_binary, reads_and, reads_or, reads_conditional, reads_assign, reads_comma}
use Rattle.c65_parse_law_trees.proofs.Operands.{reads_paren, reads_sizeof, reads_arguments, reads_call}
use Rattle.c65_parse_law_trees.proofs.Casts.{reads_sizeof_type, reads_cast}
use Rattle.c65_parse_law_trees.proofs.Specifiers.{reads_nothing, reads_list, reads_storage, reads_word, reads_typedef_name, reads_tagged, reads_enum}
use Rattle.c65_parse_law_trees.proofs.Members.{reads_members, reads_decls, reads_enumerators}
use Rattle.c65_parse_law_trees.proofs.Declarators.{reads_nameless, reads_named, reads_grouped, reads_calling, reads_pointer, reads_array}
use Rattle.c65_parse_law_trees.proofs.Params.{reads_type, reads_params, reads_function}

mutual
  pub reads_expr : (limit : ℕ) (e : t.ExprTree) → ReadsExpr limit e
  reads_expr limit (t.name l n) = reads_name limit l n
  reads_expr limit (t.number l ty n) = reads_number limit l ty n
  reads_expr limit (t.text l bs) = reads_text limit l bs
  reads_expr limit (t.paren l e) = reads_paren limit l e (reads_expr limit e)
  reads_expr limit (t.index l a i) = reads_index limit l a i (reads_expr limit a) (reads_expr limit i)
  reads_expr limit (t.call l f es) = reads_call limit l f es (reads_expr limit f) (reads_exprs limit es)
  reads_expr limit (t.member l e arrow n) = reads_member limit l e arrow n (reads_expr limit e)
  reads_expr limit (t.step l how e) = reads_step limit l how e (reads_expr limit e)
  reads_expr limit (t.unary l op e) = reads_unary limit l op e (reads_expr limit e)
  reads_expr limit (t.sizeof_expr l e) = reads_sizeof limit l e (reads_expr limit e)
  reads_expr limit (t.sizeof_type l ty) = reads_sizeof_type limit l ty (reads_types limit ty)
  reads_expr limit (t.cast l ty e) = reads_cast limit l ty e (reads_types limit ty) (reads_expr limit e)
  reads_expr limit (t.binary l op a b) = reads_binary limit l op a b (reads_expr limit a) (reads_expr limit b)
  reads_expr limit (t.and_also l a b) = reads_and limit l a b (reads_expr limit a) (reads_expr limit b)
  reads_expr limit (t.or_else l a b) = reads_or limit l a b (reads_expr limit a) (reads_expr limit b)
  reads_expr limit (t.conditional l c a b) = reads_conditional limit l c a b (reads_expr limit c) (reads_expr limit a) (reads_expr limit b)
  reads_expr limit (t.assign l op a b) = reads_assign limit l op a b (reads_expr limit a) (reads_expr limit b)
  reads_expr limit (t.comma l a b) = reads_comma limit l a b (reads_expr limit a) (reads_expr limit b)

  pub reads_exprs : (limit : ℕ) (es : t.ExprList) → ReadsExprs limit es
  reads_exprs limit t.no_exprs = tt
  reads_exprs limit (t.and_expr es e) = reads_arguments limit es e (reads_exprs limit es) (reads_expr limit e)

  pub reads_maybe : (limit : ℕ) (v : t.MaybeExpr) → ReadsMaybe limit v
  reads_maybe limit t.no_expr = tt
  reads_maybe limit (t.an_expr e) = reads_expr limit e

  pub reads_types : (limit : ℕ) (ty : t.TypeTree) → ReadsType limit ty
  reads_types limit (t.type_name q d) = reads_type limit q d (reads_specifiers limit q) (reads_declarator limit d)

  pub reads_specifiers : (limit : ℕ) (q : t.SpecifiersTree) → ReadsSpecifiers limit q
  reads_specifiers limit (t.specifiers l qs) = reads_specifier_list limit qs

  pub reads_specifier_list : (limit : ℕ) (qs : t.SpecifierList) → ReadsList limit qs
  reads_specifier_list limit t.no_specifiers = reads_nothing limit
  reads_specifier_list limit (t.and_specifier qs q) = reads_list limit qs q (reads_specifier_list limit qs) (reads_specifier limit q)

  pub reads_specifier : (limit : ℕ) (q : t.SpecifierTree) → ReadsSpecifier limit q
  reads_specifier limit (t.storage l c) = reads_storage limit l c
  reads_specifier limit (t.word l w) = reads_word limit l w
  reads_specifier limit (t.typedef_name l n) = reads_typedef_name limit l n
  reads_specifier limit (t.tagged l union name ms) = reads_tagged limit l union name ms (reads_in_members limit ms)
  reads_specifier limit (t.enum l name es) = reads_enum limit l name es (reads_in_enumerators limit es)

  pub reads_in_members : (limit : ℕ) (ms : t.MaybeMembers) → ReadsMembers_in limit ms
  reads_in_members limit t.no_members = tt
  reads_in_members limit (t.the_members ds) = reads_member_decls limit ds

  pub reads_member_decls : (limit : ℕ) (ds : t.MemberDeclList) → ReadsDecls limit ds
  reads_member_decls limit t.no_member_decls = tt
  reads_member_decls limit (t.and_member_decl ds q ms) = reads_decls limit ds q ms (reads_member_decls limit ds) (reads_specifiers limit q) (reads_member_list limit ms)

  pub reads_member_list : (limit : ℕ) (ms : t.MemberList) → ReadsMembers limit ms
  reads_member_list limit t.no_more_members = tt
  reads_member_list limit (t.and_member ms l d w) = reads_members limit ms l d w (reads_member_list limit ms) (reads_maybe_declarator limit d) (reads_maybe limit w)

  pub reads_in_enumerators : (limit : ℕ) (es : t.MaybeEnumerators) → ReadsEnumerators_in limit es
  reads_in_enumerators limit t.no_enumerators = tt
  reads_in_enumerators limit (t.the_enumerators es) = reads_enumerator_list limit es

  pub reads_enumerator_list : (limit : ℕ) (es : t.EnumeratorList) → ReadsEnumerators limit es
  reads_enumerator_list limit t.no_more_enumerators = tt
  reads_enumerator_list limit (t.and_enumerator es l n v) = reads_enumerators limit es l n v (reads_enumerator_list limit es) (reads_maybe limit v)

  pub reads_declarator : (limit : ℕ) (d : t.DeclaratorTree) → ReadsDeclarator limit d
  reads_declarator limit (t.nameless l) = reads_nameless limit l
  reads_declarator limit (t.named l n) = reads_named limit l n
  reads_declarator limit (t.grouped l d) = reads_grouped limit l d (reads_declarator limit d)
  reads_declarator limit (t.calling l cdecl d) = reads_calling limit l cdecl d (reads_declarator limit d)
  reads_declarator limit (t.pointer l c v d) = reads_pointer limit l c v d (reads_declarator limit d)
  reads_declarator limit (t.array l d n) = reads_array limit l d n (reads_declarator limit d) (reads_maybe limit n)
  reads_declarator limit (t.function l d ps) = reads_function limit l d ps (reads_declarator limit d) (reads_params_tree limit ps)

  pub reads_maybe_declarator : (limit : ℕ) (d : t.MaybeDeclarator) → ReadsMaybeDeclarator limit d
  reads_maybe_declarator limit t.no_declarator = tt
  reads_maybe_declarator limit (t.a_declarator d) = reads_declarator limit d

  pub reads_params_tree : (limit : ℕ) (ps : t.ParamsTree) → ReadsParamsTree limit ps
  reads_params_tree limit t.no_params = tt
  reads_params_tree limit (t.param_names ns) = tt
  reads_params_tree limit (t.param_types ps more) = reads_param_list limit ps

  pub reads_param_list : (limit : ℕ) (ps : t.ParamList) → ReadsParams limit ps
  reads_param_list limit t.no_more_params = tt
  reads_param_list limit (t.and_param ps q d) = reads_params limit ps q d (reads_param_list limit ps) (reads_specifiers limit q) (reads_declarator limit d)
