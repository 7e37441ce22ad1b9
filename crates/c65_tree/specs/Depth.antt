-- The depth of trees. A leaf has depth 1 and every other node is one deeper than its deepest part.
-- Nodes are expressions, specifiers, declarators, initialisers and statements; what only holds
-- nodes together, as a type name, a parameter or a member, adds nothing. The count goes on from an
-- expression into a type name and from there into bounds, members, enumerators and parameters, and
-- from an initialiser into its expression. It begins anew at an expression of a statement and at
-- the specifiers, each declarator and each initialiser of a declaration.
use Rattle.std.specs.Prelude.{ℕ, ◌+◌, max}
use Rattle.c65_tree.specs.Lists.{of_option, deepest}
use Rattle.c65_tree.specs.Trees.{ExprTree, name, number, text, paren, index, call, member, step, unary, sizeof_expr, sizeof_type, cast, binary, and_also, or_else, conditional, assign, comma, ExprList, no_exprs, and_expr, MaybeExpr, no_expr, an_expr, TypeTree, type_name, SpecifiersTree, specifiers, SpecifierList, no_specifiers, and_specifier, SpecifierTree, storage, word, typedef_name, tagged, enum, MaybeMembers, no_members, the_members, MemberDeclList, no_member_decls, and_member_decl, MemberList, no_more_members, and_member, MaybeEnumerators, no_enumerators, the_enumerators, EnumeratorList, no_more_enumerators, and_enumerator, DeclaratorTree, nameless, named, grouped, calling, pointer, array, function, MaybeDeclarator, no_declarator, a_declarator, ParamsTree, no_params, param_names, param_types, ParamList, no_more_params, and_param, InitTree, value, list, InitList, no_inits, and_init, InitDeclaratorTree, DeclTree, StmtTree, label, case, default, block, eval, if_stmt, switch, while, do_while, for, goto, continue, break, return, MaybeStmt, no_stmt, a_stmt, StmtList, no_stmts, and_stmt, FunctionTree, ItemTree, declaration, definition, UnitTree}

abbrev mutual
  pub expr_depth : ExprTree → ℕ
  expr_depth (name p n) = 1
  expr_depth (number p t n) = 1
  expr_depth (text p bs) = 1
  expr_depth (paren p e) = expr_depth e + 1
  expr_depth (index p a i) = max (expr_depth a) (expr_depth i) + 1
  expr_depth (call p f es) = max (expr_depth f) (exprs_depth es) + 1
  expr_depth (member p e arrow n) = expr_depth e + 1
  expr_depth (step p how e) = expr_depth e + 1
  expr_depth (unary p op e) = expr_depth e + 1
  expr_depth (sizeof_expr p e) = expr_depth e + 1
  expr_depth (sizeof_type p t) = type_depth t + 1
  expr_depth (cast p t e) = max (type_depth t) (expr_depth e) + 1
  expr_depth (binary p op a b) = max (expr_depth a) (expr_depth b) + 1
  expr_depth (and_also p a b) = max (expr_depth a) (expr_depth b) + 1
  expr_depth (or_else p a b) = max (expr_depth a) (expr_depth b) + 1
  expr_depth (conditional p c a b) = max (expr_depth c) (max (expr_depth a) (expr_depth b)) + 1
  expr_depth (assign p op a b) = max (expr_depth a) (expr_depth b) + 1
  expr_depth (comma p a b) = max (expr_depth a) (expr_depth b) + 1

  pub exprs_depth : ExprList → ℕ
  exprs_depth no_exprs = 0
  exprs_depth (and_expr es e) = max (exprs_depth es) (expr_depth e)

  pub maybe_expr_depth : MaybeExpr → ℕ
  maybe_expr_depth no_expr = 0
  maybe_expr_depth (an_expr e) = expr_depth e

  pub type_depth : TypeTree → ℕ
  type_depth (type_name q d) = max (specifiers_depth q) (declarator_depth d)

  pub specifiers_depth : SpecifiersTree → ℕ
  specifiers_depth (specifiers p qs) = specifier_list_depth qs

  pub specifier_list_depth : SpecifierList → ℕ
  specifier_list_depth no_specifiers = 0
  specifier_list_depth (and_specifier qs q) = max (specifier_list_depth qs) (specifier_depth q)

  pub specifier_depth : SpecifierTree → ℕ
  specifier_depth (storage p c) = 1
  specifier_depth (word p w) = 1
  specifier_depth (typedef_name p n) = 1
  specifier_depth (tagged p union tag ms) = members_depth ms + 1
  specifier_depth (enum p tag es) = enumerators_depth es + 1

  pub members_depth : MaybeMembers → ℕ
  members_depth no_members = 0
  members_depth (the_members ds) = member_decls_depth ds

  pub member_decls_depth : MemberDeclList → ℕ
  member_decls_depth no_member_decls = 0
  member_decls_depth (and_member_decl ds q ms) = max (member_decls_depth ds) (max (specifiers_depth q) (member_list_depth ms))

  pub member_list_depth : MemberList → ℕ
  member_list_depth no_more_members = 0
  member_list_depth (and_member ms p d w) = max (member_list_depth ms) (max (maybe_declarator_depth d) (maybe_expr_depth w))

  pub enumerators_depth : MaybeEnumerators → ℕ
  enumerators_depth no_enumerators = 0
  enumerators_depth (the_enumerators es) = enumerator_list_depth es

  pub enumerator_list_depth : EnumeratorList → ℕ
  enumerator_list_depth no_more_enumerators = 0
  enumerator_list_depth (and_enumerator es p n v) = max (enumerator_list_depth es) (maybe_expr_depth v)

  pub declarator_depth : DeclaratorTree → ℕ
  declarator_depth (nameless p) = 1
  declarator_depth (named p n) = 1
  declarator_depth (grouped p d) = declarator_depth d + 1
  declarator_depth (calling p cdecl d) = declarator_depth d + 1
  declarator_depth (pointer p c v d) = declarator_depth d + 1
  declarator_depth (array p d n) = max (declarator_depth d) (maybe_expr_depth n) + 1
  declarator_depth (function p d ps) = max (declarator_depth d) (params_depth ps) + 1

  pub maybe_declarator_depth : MaybeDeclarator → ℕ
  maybe_declarator_depth no_declarator = 0
  maybe_declarator_depth (a_declarator d) = declarator_depth d

  pub params_depth : ParamsTree → ℕ
  params_depth no_params = 0
  params_depth (param_names ns) = 0
  params_depth (param_types ps more) = param_list_depth ps

  pub param_list_depth : ParamList → ℕ
  param_list_depth no_more_params = 0
  param_list_depth (and_param ps q d) = max (param_list_depth ps) (max (specifiers_depth q) (declarator_depth d))

abbrev mutual
  pub init_depth : InitTree → ℕ
  init_depth (value p e) = expr_depth e
  init_depth (list p is) = inits_depth is + 1

  pub inits_depth : InitList → ℕ
  inits_depth no_inits = 0
  inits_depth (and_init is i) = max (inits_depth is) (init_depth i)

abbrev mutual
  pub stmt_depth : StmtTree → ℕ
  stmt_depth (label p n s) = stmt_depth s + 1
  stmt_depth (case p e s) = stmt_depth s + 1
  stmt_depth (default p s) = stmt_depth s + 1
  stmt_depth (block p ds ss) = stmts_depth ss + 1
  stmt_depth (eval p e) = 1
  stmt_depth (if_stmt p e s r) = max (stmt_depth s) (maybe_stmt_depth r) + 1
  stmt_depth (switch p e s) = stmt_depth s + 1
  stmt_depth (while p e s) = stmt_depth s + 1
  stmt_depth (do_while p s e) = stmt_depth s + 1
  stmt_depth (for p e f g s) = stmt_depth s + 1
  stmt_depth (goto p n) = 1
  stmt_depth (continue p) = 1
  stmt_depth (break p) = 1
  stmt_depth (return p e) = 1

  pub maybe_stmt_depth : MaybeStmt → ℕ
  maybe_stmt_depth no_stmt = 0
  maybe_stmt_depth (a_stmt s) = stmt_depth s

  pub stmts_depth : StmtList → ℕ
  stmts_depth no_stmts = 0
  stmts_depth (and_stmt ss s) = max (stmts_depth ss) (stmt_depth s)

abbrev pub init_declarator_depth : InitDeclaratorTree → ℕ
init_declarator_depth d = max (declarator_depth d.declarator) (of_option init_depth d.init)

abbrev pub decl_depth : DeclTree → ℕ
decl_depth d = max (specifiers_depth d.specifiers) (deepest init_declarator_depth d.declarators)

abbrev mutual
  -- the deepest expression, and the deepest part of a declaration, in a statement
  pub inner_depth : StmtTree → ℕ
  inner_depth (label p n s) = inner_depth s
  inner_depth (case p e s) = max (expr_depth e) (inner_depth s)
  inner_depth (default p s) = inner_depth s
  inner_depth (block p ds ss) = max (deepest decl_depth ds) (inners_depth ss)
  inner_depth (eval p e) = of_option expr_depth e
  inner_depth (if_stmt p e s r) = max (expr_depth e) (max (inner_depth s) (maybe_inner_depth r))
  inner_depth (switch p e s) = max (expr_depth e) (inner_depth s)
  inner_depth (while p e s) = max (expr_depth e) (inner_depth s)
  inner_depth (do_while p s e) = max (inner_depth s) (expr_depth e)
  inner_depth (for p e f g s) = max (max (of_option expr_depth e) (of_option expr_depth f)) (max (of_option expr_depth g) (inner_depth s))
  inner_depth (goto p n) = 0
  inner_depth (continue p) = 0
  inner_depth (break p) = 0
  inner_depth (return p e) = of_option expr_depth e

  pub maybe_inner_depth : MaybeStmt → ℕ
  maybe_inner_depth no_stmt = 0
  maybe_inner_depth (a_stmt s) = inner_depth s

  pub inners_depth : StmtList → ℕ
  inners_depth no_stmts = 0
  inners_depth (and_stmt ss s) = max (inners_depth ss) (inner_depth s)

abbrev pub function_depth : FunctionTree → ℕ
function_depth f = max (max (specifiers_depth f.specifiers) (declarator_depth f.declarator)) (max (deepest decl_depth f.declarations) (max (stmt_depth f.body) (inner_depth f.body)))

abbrev pub item_depth : ItemTree → ℕ
item_depth (declaration d) = decl_depth d
item_depth (definition f) = function_depth f

-- the deepest tree of a unit
abbrev pub unit_depth : UnitTree → ℕ
unit_depth u = deepest item_depth u.items
