-- Which names are types, and how each tree changes that (C90 6.1.2.1). What is declared in a block, or among
-- parameters, is forgotten behind it.
use Rattle.std.specs.Prelude.{Bool, false, nat_eq, if◌then◌else◌, Option, None, Some, List, [], ◌∷◌}
use Rattle.c65_base.specs.declared.names.Name.{Name}
use Rattle.c65_tree.specs.Trees as t
use Rattle.c65_parse_grammar.specs.Parts.{is_typedef, declared_name, nearest_params}

-- whether the nearest declaration of a name made it a type
abbrev pub Scope : Type 0
Scope = Name → Bool

abbrev pub no_types : Scope
no_types n = false

abbrev pub declare : Name → Bool → Scope → Scope
declare name is_type sc n = if nat_eq n.0 name.0 then is_type else sc n

abbrev pub declare_maybe : Option Name → Bool → Scope → Scope
declare_maybe None is_type sc = sc
declare_maybe (Some n) is_type sc = declare n is_type sc

abbrev mutual
  pub after : Scope → t.ExprTree → Scope
  after sc (t.name l n) = sc
  after sc (t.number l ty n) = sc
  after sc (t.text l bs) = sc
  after sc (t.paren l e) = after sc e
  after sc (t.index l a i) = after (after sc a) i
  after sc (t.call l f es) = after_exprs (after sc f) es
  after sc (t.member l e arrow n) = after sc e
  after sc (t.step l how e) = after sc e
  after sc (t.unary l op e) = after sc e
  after sc (t.sizeof_expr l e) = after sc e
  after sc (t.sizeof_type l ty) = after_type sc ty
  after sc (t.cast l ty e) = after (after_type sc ty) e
  after sc (t.binary l op a b) = after (after sc a) b
  after sc (t.and_also l a b) = after (after sc a) b
  after sc (t.or_else l a b) = after (after sc a) b
  after sc (t.conditional l c a b) = after (after (after sc c) a) b
  after sc (t.assign l op a b) = after (after sc a) b
  after sc (t.comma l a b) = after (after sc a) b

  pub after_exprs : Scope → t.ExprList → Scope
  after_exprs sc t.no_exprs = sc
  after_exprs sc (t.and_expr es e) = after (after_exprs sc es) e

  pub after_maybe : Scope → t.MaybeExpr → Scope
  after_maybe sc t.no_expr = sc
  after_maybe sc (t.an_expr e) = after sc e

  pub after_type : Scope → t.TypeTree → Scope
  after_type sc (t.type_name q d) = after_declarator (after_specifiers sc q) d

  pub after_specifiers : Scope → t.SpecifiersTree → Scope
  after_specifiers sc (t.specifiers l qs) = after_list sc qs

  pub after_list : Scope → t.SpecifierList → Scope
  after_list sc t.no_specifiers = sc
  after_list sc (t.and_specifier qs q) = after_specifier (after_list sc qs) q

  pub after_specifier : Scope → t.SpecifierTree → Scope
  after_specifier sc (t.storage l c) = sc
  after_specifier sc (t.word l w) = sc
  after_specifier sc (t.typedef_name l n) = sc
  after_specifier sc (t.tagged l union tag ms) = after_members sc ms
  after_specifier sc (t.enum l tag es) = after_enumerators sc es

  pub after_members : Scope → t.MaybeMembers → Scope
  after_members sc t.no_members = sc
  after_members sc (t.the_members ds) = after_member_decls sc ds

  pub after_member_decls : Scope → t.MemberDeclList → Scope
  after_member_decls sc t.no_member_decls = sc
  after_member_decls sc (t.and_member_decl ds q ms) = after_member_list (after_specifiers (after_member_decls sc ds) q) ms

  pub after_member_list : Scope → t.MemberList → Scope
  after_member_list sc t.no_more_members = sc
  after_member_list sc (t.and_member ms l d w) = after_maybe (after_maybe_declarator (after_member_list sc ms) d) w

  pub after_enumerators : Scope → t.MaybeEnumerators → Scope
  after_enumerators sc t.no_enumerators = sc
  after_enumerators sc (t.the_enumerators es) = after_enumerator_list sc es

  -- an enumerator is declared behind its value
  pub after_enumerator_list : Scope → t.EnumeratorList → Scope
  after_enumerator_list sc t.no_more_enumerators = sc
  after_enumerator_list sc (t.and_enumerator es l n v) = declare n false (after_maybe (after_enumerator_list sc es) v)

  -- without the name that the declarator declares
  pub after_declarator : Scope → t.DeclaratorTree → Scope
  after_declarator sc (t.nameless l) = sc
  after_declarator sc (t.named l n) = sc
  after_declarator sc (t.grouped l d) = after_declarator sc d
  after_declarator sc (t.calling l cdecl d) = after_declarator sc d
  after_declarator sc (t.pointer l c v d) = after_declarator sc d
  after_declarator sc (t.array l d n) = after_maybe (after_declarator sc d) n
  after_declarator sc (t.function l d ps) = after_declarator sc d

  pub after_maybe_declarator : Scope → t.MaybeDeclarator → Scope
  after_maybe_declarator sc t.no_declarator = sc
  after_maybe_declarator sc (t.a_declarator d) = after_declarator sc d

  -- a parameter is declared behind its declarator
  pub after_params : Scope → t.ParamList → Scope
  after_params sc t.no_more_params = sc
  after_params sc (t.and_param ps q d) = declare_maybe (declared_name d) (is_typedef q) (after_declarator (after_specifiers (after_params sc ps) q) d)

abbrev mutual
  pub after_init : Scope → t.InitTree → Scope
  after_init sc (t.value l e) = after sc e
  after_init sc (t.list l is) = after_inits sc is

  pub after_inits : Scope → t.InitList → Scope
  after_inits sc t.no_inits = sc
  after_inits sc (t.and_init is i) = after_init (after_inits sc is) i

-- a declarator's name is declared just behind it
abbrev pub declared : Bool → Scope → t.DeclaratorTree → Scope
declared is_type sc d = declare_maybe (declared_name d) is_type (after_declarator sc d)

abbrev pub after_maybe_init : Scope → Option t.InitTree → Scope
after_maybe_init sc None = sc
after_maybe_init sc (Some i) = after_init sc i

abbrev pub after_declarators : Bool → Scope → List t.InitDeclaratorTree → Scope
after_declarators is_type sc [] = sc
after_declarators is_type sc (d ∷ ds) = after_declarators is_type (after_maybe_init (declared is_type sc d.declarator) d.init) ds

abbrev pub after_decl : Scope → t.DeclTree → Scope
after_decl sc d = after_declarators (is_typedef d.specifiers) (after_specifiers sc d.specifiers) d.declarators

abbrev pub after_decls : Scope → List t.DeclTree → Scope
after_decls sc [] = sc
after_decls sc (d ∷ ds) = after_decls (after_decl sc d) ds

abbrev pub after_option : Scope → Option t.ExprTree → Scope
after_option sc None = sc
after_option sc (Some e) = after sc e

abbrev mutual
  pub after_stmt : Scope → t.StmtTree → Scope
  after_stmt sc (t.label l n s) = after_stmt sc s
  after_stmt sc (t.case l e s) = after_stmt (after sc e) s
  after_stmt sc (t.default l s) = after_stmt sc s
  after_stmt sc (t.block l ds ss) = sc
  after_stmt sc (t.eval l e) = after_option sc e
  after_stmt sc (t.if_stmt l e s r) = after_else (after_stmt (after sc e) s) r
  after_stmt sc (t.switch l e s) = after_stmt (after sc e) s
  after_stmt sc (t.while l e s) = after_stmt (after sc e) s
  after_stmt sc (t.do_while l s e) = after (after_stmt sc s) e
  after_stmt sc (t.for l e f g s) = after_stmt (after_option (after_option (after_option sc e) f) g) s
  after_stmt sc (t.goto l n) = sc
  after_stmt sc (t.continue l) = sc
  after_stmt sc (t.break l) = sc
  after_stmt sc (t.return l e) = after_option sc e

  pub after_else : Scope → t.MaybeStmt → Scope
  after_else sc t.no_stmt = sc
  after_else sc (t.a_stmt s) = after_stmt sc s

  pub after_stmts : Scope → t.StmtList → Scope
  after_stmts sc t.no_stmts = sc
  after_stmts sc (t.and_stmt ss s) = after_stmt (after_stmts sc ss) s

-- an old-style list hides nothing: none of its names is a type
abbrev pub with_params : Scope → Option t.ParamsTree → Scope
with_params sc None = sc
with_params sc (Some t.no_params) = sc
with_params sc (Some (t.param_names ns)) = sc
with_params sc (Some (t.param_types ps more)) = after_params sc ps

-- the scope behind the declarator of a function definition, in its block
abbrev pub in_function : Scope → t.DeclaratorTree → Scope
in_function sc d = with_params sc (nearest_params d)

abbrev pub after_head : Scope → t.FunctionTree → Scope
after_head sc f = declared (is_typedef f.specifiers) (after_specifiers sc f.specifiers) f.declarator

abbrev pub after_item : Scope → t.ItemTree → Scope
after_item sc (t.declaration d) = after_decl sc d
after_item sc (t.definition f) = after_head sc f

abbrev pub after_items : Scope → List t.ItemTree → Scope
after_items sc [] = sc
after_items sc (i ∷ is) = after_items (after_item sc i) is
