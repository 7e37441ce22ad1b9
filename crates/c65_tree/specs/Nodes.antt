-- How many expressions and statements trees have.
use Rattle.std.specs.Prelude.{ℕ, ◌+◌}
use Rattle.c65_tree.specs.Lists.{of_option, total}
use Rattle.c65_tree.specs.Trees.{ExprTree, name, number, text, paren, index, call, member, step, unary, sizeof_expr, sizeof_type, cast, binary, and_also, or_else, conditional, assign, comma, ExprList, no_exprs, and_expr, MaybeExpr, no_expr, an_expr, TypeTree, type_name, SpecifiersTree, specifiers, SpecifierList, no_specifiers, and_specifier, SpecifierTree, storage, word, typedef_name, tagged, enum, MaybeMembers, no_members, the_members, MemberDeclList, no_member_decls, and_member_decl, MemberList, no_more_members, and_member, MaybeEnumerators, no_enumerators, the_enumerators, EnumeratorList, no_more_enumerators, and_enumerator, DeclaratorTree, nameless, named, grouped, calling, pointer, array, function, MaybeDeclarator, no_declarator, a_declarator, ParamsTree, no_params, param_names, param_types, ParamList, no_more_params, and_param, InitTree, value, list, InitList, no_inits, and_init, InitDeclaratorTree, DeclTree, StmtTree, label, case, default, block, eval, if_stmt, switch, while, do_while, for, goto, continue, break, return, MaybeStmt, no_stmt, a_stmt, StmtList, no_stmts, and_stmt, FunctionTree, ItemTree, declaration, definition, UnitTree}

abbrev mutual
  pub expr_nodes : ExprTree → ℕ
  expr_nodes (name p n) = 1
  expr_nodes (number p t n) = 1
  expr_nodes (text p bs) = 1
  expr_nodes (paren p e) = expr_nodes e + 1
  expr_nodes (index p a i) = expr_nodes a + expr_nodes i + 1
  expr_nodes (call p f es) = expr_nodes f + exprs_nodes es + 1
  expr_nodes (member p e arrow n) = expr_nodes e + 1
  expr_nodes (step p how e) = expr_nodes e + 1
  expr_nodes (unary p op e) = expr_nodes e + 1
  expr_nodes (sizeof_expr p e) = expr_nodes e + 1
  expr_nodes (sizeof_type p t) = type_nodes t + 1
  expr_nodes (cast p t e) = type_nodes t + expr_nodes e + 1
  expr_nodes (binary p op a b) = expr_nodes a + expr_nodes b + 1
  expr_nodes (and_also p a b) = expr_nodes a + expr_nodes b + 1
  expr_nodes (or_else p a b) = expr_nodes a + expr_nodes b + 1
  expr_nodes (conditional p c a b) = expr_nodes c + (expr_nodes a + expr_nodes b) + 1
  expr_nodes (assign p op a b) = expr_nodes a + expr_nodes b + 1
  expr_nodes (comma p a b) = expr_nodes a + expr_nodes b + 1

  pub exprs_nodes : ExprList → ℕ
  exprs_nodes no_exprs = 0
  exprs_nodes (and_expr es e) = exprs_nodes es + expr_nodes e

  pub maybe_expr_nodes : MaybeExpr → ℕ
  maybe_expr_nodes no_expr = 0
  maybe_expr_nodes (an_expr e) = expr_nodes e

  pub type_nodes : TypeTree → ℕ
  type_nodes (type_name q d) = specifiers_nodes q + declarator_nodes d

  pub specifiers_nodes : SpecifiersTree → ℕ
  specifiers_nodes (specifiers p qs) = specifier_list_nodes qs

  pub specifier_list_nodes : SpecifierList → ℕ
  specifier_list_nodes no_specifiers = 0
  specifier_list_nodes (and_specifier qs q) = specifier_list_nodes qs + specifier_nodes q

  pub specifier_nodes : SpecifierTree → ℕ
  specifier_nodes (storage p c) = 0
  specifier_nodes (word p w) = 0
  specifier_nodes (typedef_name p n) = 0
  specifier_nodes (tagged p union tag ms) = members_nodes ms
  specifier_nodes (enum p tag es) = enumerators_nodes es

  pub members_nodes : MaybeMembers → ℕ
  members_nodes no_members = 0
  members_nodes (the_members ds) = member_decls_nodes ds

  pub member_decls_nodes : MemberDeclList → ℕ
  member_decls_nodes no_member_decls = 0
  member_decls_nodes (and_member_decl ds q ms) = member_decls_nodes ds + (specifiers_nodes q + member_list_nodes ms)

  pub member_list_nodes : MemberList → ℕ
  member_list_nodes no_more_members = 0
  member_list_nodes (and_member ms p d w) = member_list_nodes ms + (maybe_declarator_nodes d + maybe_expr_nodes w)

  pub enumerators_nodes : MaybeEnumerators → ℕ
  enumerators_nodes no_enumerators = 0
  enumerators_nodes (the_enumerators es) = enumerator_list_nodes es

  pub enumerator_list_nodes : EnumeratorList → ℕ
  enumerator_list_nodes no_more_enumerators = 0
  enumerator_list_nodes (and_enumerator es p n v) = enumerator_list_nodes es + maybe_expr_nodes v

  pub declarator_nodes : DeclaratorTree → ℕ
  declarator_nodes (nameless p) = 0
  declarator_nodes (named p n) = 0
  declarator_nodes (grouped p d) = declarator_nodes d
  declarator_nodes (calling p cdecl d) = declarator_nodes d
  declarator_nodes (pointer p c v d) = declarator_nodes d
  declarator_nodes (array p d n) = declarator_nodes d + maybe_expr_nodes n
  declarator_nodes (function p d ps) = declarator_nodes d + params_nodes ps

  pub maybe_declarator_nodes : MaybeDeclarator → ℕ
  maybe_declarator_nodes no_declarator = 0
  maybe_declarator_nodes (a_declarator d) = declarator_nodes d

  pub params_nodes : ParamsTree → ℕ
  params_nodes no_params = 0
  params_nodes (param_names ns) = 0
  params_nodes (param_types ps more) = param_list_nodes ps

  pub param_list_nodes : ParamList → ℕ
  param_list_nodes no_more_params = 0
  param_list_nodes (and_param ps q d) = param_list_nodes ps + (specifiers_nodes q + declarator_nodes d)

abbrev mutual
  pub init_nodes : InitTree → ℕ
  init_nodes (value p e) = expr_nodes e
  init_nodes (list p is) = inits_nodes is

  pub inits_nodes : InitList → ℕ
  inits_nodes no_inits = 0
  inits_nodes (and_init is i) = inits_nodes is + init_nodes i

abbrev pub init_declarator_nodes : InitDeclaratorTree → ℕ
init_declarator_nodes d = declarator_nodes d.declarator + of_option init_nodes d.init

abbrev pub decl_nodes : DeclTree → ℕ
decl_nodes d = specifiers_nodes d.specifiers + total init_declarator_nodes d.declarators

abbrev mutual
  pub stmt_nodes : StmtTree → ℕ
  stmt_nodes (label p n s) = stmt_nodes s + 1
  stmt_nodes (case p e s) = expr_nodes e + stmt_nodes s + 1
  stmt_nodes (default p s) = stmt_nodes s + 1
  stmt_nodes (block p ds ss) = total decl_nodes ds + stmts_nodes ss + 1
  stmt_nodes (eval p e) = of_option expr_nodes e + 1
  stmt_nodes (if_stmt p e s r) = expr_nodes e + (stmt_nodes s + maybe_stmt_nodes r) + 1
  stmt_nodes (switch p e s) = expr_nodes e + stmt_nodes s + 1
  stmt_nodes (while p e s) = expr_nodes e + stmt_nodes s + 1
  stmt_nodes (do_while p s e) = stmt_nodes s + expr_nodes e + 1
  stmt_nodes (for p e f g s) = of_option expr_nodes e + of_option expr_nodes f + (of_option expr_nodes g + stmt_nodes s) + 1
  stmt_nodes (goto p n) = 1
  stmt_nodes (continue p) = 1
  stmt_nodes (break p) = 1
  stmt_nodes (return p e) = of_option expr_nodes e + 1

  pub maybe_stmt_nodes : MaybeStmt → ℕ
  maybe_stmt_nodes no_stmt = 0
  maybe_stmt_nodes (a_stmt s) = stmt_nodes s

  pub stmts_nodes : StmtList → ℕ
  stmts_nodes no_stmts = 0
  stmts_nodes (and_stmt ss s) = stmts_nodes ss + stmt_nodes s

abbrev pub function_nodes : FunctionTree → ℕ
function_nodes f = specifiers_nodes f.specifiers + declarator_nodes f.declarator + (total decl_nodes f.declarations + stmt_nodes f.body)

abbrev pub item_nodes : ItemTree → ℕ
item_nodes (declaration d) = decl_nodes d
item_nodes (definition f) = function_nodes f

abbrev pub unit_nodes : UnitTree → ℕ
unit_nodes u = total item_nodes u.items
