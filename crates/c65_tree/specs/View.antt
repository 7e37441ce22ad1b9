-- The trees of the code, as trees without Box and Vec.
use Rattle.std.specs.Prelude.{List, [], ◌∷◌, map, Option, None, Some}
use Rattle.c65_base.specs.declared.refusal.Pos.{Pos}
use Rattle.c65_tree.specs.declared.expr.Expr.{Expr}
use Rattle.c65_tree.specs.declared.expr.ExprKind.{ExprKind, Row_of-Expr, end_of-Expr, more_of-Expr}
use Rattle.c65_tree.specs.declared.expr.ExprKind.TheVariants as x
use Rattle.c65_tree.specs.declared.expr.TypeName.{TypeName, TypeName'}
use Rattle.c65_tree.specs.declared.expr.Specifiers.{Specifiers, Specifiers', Row_of-Specifier, end_of-Specifier, more_of-Specifier}
use Rattle.c65_tree.specs.declared.expr.Specifier.{Specifier}
use Rattle.c65_tree.specs.declared.expr.SpecifierKind.{SpecifierKind, Held-SpecifierKind-Tagged-2, SpecifierKind-Tagged-2-None', SpecifierKind-Tagged-2-Some', Held-SpecifierKind-Enum-1, SpecifierKind-Enum-1-None', SpecifierKind-Enum-1-Some', Row_of-MemberDecl, end_of-MemberDecl, more_of-MemberDecl, Row_of-Enumerator, end_of-Enumerator, more_of-Enumerator}
use Rattle.c65_tree.specs.declared.expr.SpecifierKind.TheVariants as s
use Rattle.c65_tree.specs.declared.expr.MemberDecl.{MemberDecl, MemberDecl', Row_of-MemberDeclarator, end_of-MemberDeclarator, more_of-MemberDeclarator}
use Rattle.c65_tree.specs.declared.expr.MemberDeclarator.{MemberDeclarator, MemberDeclarator', Held-MemberDeclarator-declarator, MemberDeclarator-declarator-None', MemberDeclarator-declarator-Some'}
use Rattle.c65_tree.specs.declared.expr.Enumerator.{Enumerator, Enumerator', Held-Enumerator-value, Enumerator-value-None', Enumerator-value-Some'}
use Rattle.c65_tree.specs.declared.expr.Declarator.{Declarator}
use Rattle.c65_tree.specs.declared.expr.DeclaratorKind.{DeclaratorKind, Held-DeclaratorKind-Array-1, DeclaratorKind-Array-1-None', DeclaratorKind-Array-1-Some'}
use Rattle.c65_tree.specs.declared.expr.DeclaratorKind.TheVariants as d
use Rattle.c65_tree.specs.declared.expr.Params.{Params, Row_of-Param, end_of-Param, more_of-Param}
use Rattle.c65_tree.specs.declared.expr.Params.TheVariants as p
use Rattle.c65_tree.specs.declared.expr.Param.{Param, Param'}
use Rattle.c65_tree.specs.declared.stmt.Initialiser.{Initialiser}
use Rattle.c65_tree.specs.declared.stmt.InitKind.{InitKind, Row_of-Initialiser, end_of-Initialiser, more_of-Initialiser}
use Rattle.c65_tree.specs.declared.stmt.InitKind.TheVariants as i
use Rattle.c65_tree.specs.declared.stmt.InitDeclarator.{InitDeclarator}
use Rattle.c65_tree.specs.declared.stmt.Decl.{Decl}
use Rattle.c65_tree.specs.declared.stmt.Stmt.{Stmt}
use Rattle.c65_tree.specs.declared.stmt.StmtKind.{StmtKind, Row_of-Stmt, end_of-Stmt, more_of-Stmt, Held-StmtKind-If-2, None', Some'}
use Rattle.c65_tree.specs.declared.stmt.StmtKind.TheVariants as t
use Rattle.c65_tree.specs.declared.stmt.Function.{Function}
use Rattle.c65_tree.specs.declared.stmt.Item.{Item}
use Rattle.c65_tree.specs.declared.stmt.Item.TheVariants as m
use Rattle.c65_tree.specs.declared.stmt.Unit.{Unit}
use Rattle.c65_tree.specs.Trees

abbrev mutual
  pub expr_at : Pos → ExprKind → Trees.ExprTree
  expr_at l (x.Name n) = Trees.name l n
  expr_at l (x.Number t n) = Trees.number l t n
  expr_at l (x.Text bs) = Trees.text l bs
  expr_at l (x.Paren' b k e) = Trees.paren l (expr_at k e)
  expr_at l (x.Index' b k a c j n) = Trees.index l (expr_at k a) (expr_at j n)
  expr_at l (x.Call' b k f shape es) = Trees.call l (expr_at k f) (exprs_in Trees.no_exprs es)
  expr_at l (x.Member' b k e arrow n) = Trees.member l (expr_at k e) arrow n
  expr_at l (x.Step' how b k e) = Trees.step l how (expr_at k e)
  expr_at l (x.Unary' op b k e) = Trees.unary l op (expr_at k e)
  expr_at l (x.SizeofExpr' b k e) = Trees.sizeof_expr l (expr_at k e)
  expr_at l (x.SizeofType' b t) = Trees.sizeof_type l (type_of t)
  expr_at l (x.Cast' b t c k e) = Trees.cast l (type_of t) (expr_at k e)
  expr_at l (x.Binary' op b k a c j n) = Trees.binary l op (expr_at k a) (expr_at j n)
  expr_at l (x.And' b k a c j n) = Trees.and_also l (expr_at k a) (expr_at j n)
  expr_at l (x.Or' b k a c j n) = Trees.or_else l (expr_at k a) (expr_at j n)
  expr_at l (x.Cond' b k a c j n f g o) = Trees.conditional l (expr_at k a) (expr_at j n) (expr_at g o)
  expr_at l (x.Assign' op b k a c j n) = Trees.assign l op (expr_at k a) (expr_at j n)
  expr_at l (x.Comma' b k a c j n) = Trees.comma l (expr_at k a) (expr_at j n)

  pub exprs_in : {m : _} → Trees.ExprList → Row_of-Expr m → Trees.ExprList
  exprs_in xs end_of-Expr = xs
  exprs_in xs (more_of-Expr l e es) = exprs_in (Trees.and_expr xs (expr_at l e)) es

  pub value_of : Held-Enumerator-value → Trees.MaybeExpr
  value_of Enumerator-value-None' = Trees.no_expr
  value_of (Enumerator-value-Some' l e) = Trees.an_expr (expr_at l e)

  pub bound_of : Held-DeclaratorKind-Array-1 → Trees.MaybeExpr
  bound_of DeclaratorKind-Array-1-None' = Trees.no_expr
  bound_of (DeclaratorKind-Array-1-Some' b l e) = Trees.an_expr (expr_at l e)

  pub type_of : TypeName → Trees.TypeTree
  type_of (TypeName' q l k) = Trees.type_name (specifiers_of q) (declarator_at l k)

  pub specifiers_of : Specifiers → Trees.SpecifiersTree
  specifiers_of (Specifiers' l shape qs) = Trees.specifiers l (specifiers_in Trees.no_specifiers qs)

  pub specifiers_in : {m : _} → Trees.SpecifierList → Row_of-Specifier m → Trees.SpecifierList
  specifiers_in xs end_of-Specifier = xs
  specifiers_in xs (more_of-Specifier l k ks) = specifiers_in (Trees.and_specifier xs (specifier_at l k)) ks

  pub specifier_at : Pos → SpecifierKind → Trees.SpecifierTree
  specifier_at l (s.Storage c) = Trees.storage l c
  specifier_at l s.Const = Trees.word l Trees.const
  specifier_at l s.Volatile = Trees.word l Trees.volatile
  specifier_at l s.Void = Trees.word l Trees.void
  specifier_at l s.Char = Trees.word l Trees.char
  specifier_at l s.Short = Trees.word l Trees.short
  specifier_at l s.Int = Trees.word l Trees.int
  specifier_at l s.Long = Trees.word l Trees.long
  specifier_at l s.Float = Trees.word l Trees.float
  specifier_at l s.Double = Trees.word l Trees.double
  specifier_at l s.Signed = Trees.word l Trees.signed
  specifier_at l s.Unsigned = Trees.word l Trees.unsigned
  specifier_at l (s.Typedef n) = Trees.typedef_name l n
  specifier_at l (s.Tagged' union tag ms) = Trees.tagged l union tag (members_of ms)
  specifier_at l (s.Enum' tag es) = Trees.enum l tag (enumerators_of es)

  pub members_of : Held-SpecifierKind-Tagged-2 → Trees.MaybeMembers
  members_of SpecifierKind-Tagged-2-None' = Trees.no_members
  members_of (SpecifierKind-Tagged-2-Some' shape ms) = Trees.the_members (member_decls_in Trees.no_member_decls ms)

  pub member_decls_in : {m : _} → Trees.MemberDeclList → Row_of-MemberDecl m → Trees.MemberDeclList
  member_decls_in xs end_of-MemberDecl = xs
  member_decls_in xs (more_of-MemberDecl (MemberDecl' q shape ms) ds) = member_decls_in (Trees.and_member_decl xs (specifiers_of q) (members_in Trees.no_more_members ms)) ds

  pub members_in : {m : _} → Trees.MemberList → Row_of-MemberDeclarator m → Trees.MemberList
  members_in xs end_of-MemberDeclarator = xs
  members_in xs (more_of-MemberDeclarator (MemberDeclarator' l k w) ms) = members_in (Trees.and_member xs l (member_declarator_of k) (value_of w)) ms

  pub member_declarator_of : Held-MemberDeclarator-declarator → Trees.MaybeDeclarator
  member_declarator_of MemberDeclarator-declarator-None' = Trees.no_declarator
  member_declarator_of (MemberDeclarator-declarator-Some' l k) = Trees.a_declarator (declarator_at l k)

  pub enumerators_of : Held-SpecifierKind-Enum-1 → Trees.MaybeEnumerators
  enumerators_of SpecifierKind-Enum-1-None' = Trees.no_enumerators
  enumerators_of (SpecifierKind-Enum-1-Some' shape es) = Trees.the_enumerators (enumerators_in Trees.no_more_enumerators es)

  pub enumerators_in : {m : _} → Trees.EnumeratorList → Row_of-Enumerator m → Trees.EnumeratorList
  enumerators_in xs end_of-Enumerator = xs
  enumerators_in xs (more_of-Enumerator (Enumerator' l n v) es) = enumerators_in (Trees.and_enumerator xs l n (value_of v)) es

  pub declarator_at : Pos → DeclaratorKind → Trees.DeclaratorTree
  declarator_at l d.Abstract = Trees.nameless l
  declarator_at l (d.Name n) = Trees.named l n
  declarator_at l (d.Paren' b k e) = Trees.grouped l (declarator_at k e)
  declarator_at l (d.Calling' cdecl b k e) = Trees.calling l cdecl (declarator_at k e)
  declarator_at l (d.Pointer' c v b k e) = Trees.pointer l c v (declarator_at k e)
  declarator_at l (d.Array' b k e n) = Trees.array l (declarator_at k e) (bound_of n)
  declarator_at l (d.Function' b k e ps) = Trees.function l (declarator_at k e) (params_of ps)

  pub params_of : Params → Trees.ParamsTree
  params_of p.Empty = Trees.no_params
  params_of (p.Names ns) = Trees.param_names ns.items
  params_of (p.Types' shape ps more) = Trees.param_types (params_in Trees.no_more_params ps) more

  pub params_in : {m : _} → Trees.ParamList → Row_of-Param m → Trees.ParamList
  params_in xs end_of-Param = xs
  params_in xs (more_of-Param (Param' q l k) ps) = params_in (Trees.and_param xs (specifiers_of q) (declarator_at l k)) ps

abbrev pub expr_of : Expr → Trees.ExprTree
expr_of e = expr_at e.pos e.kind

abbrev pub declarator_of : Declarator → Trees.DeclaratorTree
declarator_of e = declarator_at e.pos e.kind

abbrev pub specifier_of : Specifier → Trees.SpecifierTree
specifier_of e = specifier_at e.pos e.kind

-- the lists of a Vec, with what stands before them
abbrev pub exprs_from : Trees.ExprList → List Expr → Trees.ExprList
exprs_from xs [] = xs
exprs_from xs (e ∷ es) = exprs_from (Trees.and_expr xs (expr_of e)) es

abbrev pub specifiers_from : Trees.SpecifierList → List Specifier → Trees.SpecifierList
specifiers_from xs [] = xs
specifiers_from xs (q ∷ qs) = specifiers_from (Trees.and_specifier xs (specifier_of q)) qs

abbrev pub with_param : Trees.ParamList → Param → Trees.ParamList
with_param xs (Param' q l k) = Trees.and_param xs (specifiers_of q) (declarator_at l k)

abbrev pub params_from : Trees.ParamList → List Param → Trees.ParamList
params_from xs [] = xs
params_from xs (p ∷ ps) = params_from (with_param xs p) ps

abbrev pub with_enumerator : Trees.EnumeratorList → Enumerator → Trees.EnumeratorList
with_enumerator xs (Enumerator' l n v) = Trees.and_enumerator xs l n (value_of v)

abbrev pub enumerators_from : Trees.EnumeratorList → List Enumerator → Trees.EnumeratorList
enumerators_from xs [] = xs
enumerators_from xs (e ∷ es) = enumerators_from (with_enumerator xs e) es

abbrev pub with_member : Trees.MemberList → MemberDeclarator → Trees.MemberList
with_member xs (MemberDeclarator' l k w) = Trees.and_member xs l (member_declarator_of k) (value_of w)

abbrev pub members_from : Trees.MemberList → List MemberDeclarator → Trees.MemberList
members_from xs [] = xs
members_from xs (m ∷ ms) = members_from (with_member xs m) ms

abbrev pub with_member_decl : Trees.MemberDeclList → MemberDecl → Trees.MemberDeclList
with_member_decl xs (MemberDecl' q shape ms) = Trees.and_member_decl xs (specifiers_of q) (members_in Trees.no_more_members ms)

abbrev pub member_decls_from : Trees.MemberDeclList → List MemberDecl → Trees.MemberDeclList
member_decls_from xs [] = xs
member_decls_from xs (d ∷ ds) = member_decls_from (with_member_decl xs d) ds

abbrev mutual
  pub init_at : Pos → InitKind → Trees.InitTree
  init_at l (i.Value e) = Trees.value l (expr_of e)
  init_at l (i.List' shape is) = Trees.list l (inits_in Trees.no_inits is)

  pub inits_in : {m : _} → Trees.InitList → Row_of-Initialiser m → Trees.InitList
  inits_in xs end_of-Initialiser = xs
  inits_in xs (more_of-Initialiser l k is) = inits_in (Trees.and_init xs (init_at l k)) is

abbrev pub init_of : Initialiser → Trees.InitTree
init_of e = init_at e.pos e.kind

abbrev pub inits_from : Trees.InitList → List Initialiser → Trees.InitList
inits_from xs [] = xs
inits_from xs (i ∷ is) = inits_from (Trees.and_init xs (init_of i)) is

abbrev pub maybe : {A B : Type 0} → (A → B) → Option A → Option B
maybe f None = None
maybe f (Some a) = Some (f a)

abbrev pub init_declarator_of : InitDeclarator → Trees.InitDeclaratorTree
init_declarator_of e = record { declarator = declarator_of e.declarator; init = maybe init_of e.init }

abbrev pub decl_of : Decl → Trees.DeclTree
decl_of e = record { specifiers = specifiers_of e.specifiers; declarators = map init_declarator_of e.declarators.items }

abbrev mutual
  pub stmt_at : Pos → StmtKind → Trees.StmtTree
  stmt_at l (t.Label' n b k s) = Trees.label l n (stmt_at k s)
  stmt_at l (t.Case' e b k s) = Trees.case l (expr_of e) (stmt_at k s)
  stmt_at l (t.Default' b k s) = Trees.default l (stmt_at k s)
  stmt_at l (t.Block' ds shape ss) = Trees.block l (map decl_of ds.items) (stmts_in Trees.no_stmts ss)
  stmt_at l (t.Eval e) = Trees.eval l (maybe expr_of e)
  stmt_at l (t.If' e b k s r) = Trees.if_stmt l (expr_of e) (stmt_at k s) (else_of r)
  stmt_at l (t.Switch' e b k s) = Trees.switch l (expr_of e) (stmt_at k s)
  stmt_at l (t.While' e b k s) = Trees.while l (expr_of e) (stmt_at k s)
  stmt_at l (t.DoWhile' b k s e) = Trees.do_while l (stmt_at k s) (expr_of e)
  stmt_at l (t.For' e f g b k s) = Trees.for l (maybe expr_of e) (maybe expr_of f) (maybe expr_of g) (stmt_at k s)
  stmt_at l (t.Goto n) = Trees.goto l n
  stmt_at l t.Continue = Trees.continue l
  stmt_at l t.Break = Trees.break l
  stmt_at l (t.Return e) = Trees.return l (maybe expr_of e)

  pub else_of : Held-StmtKind-If-2 → Trees.MaybeStmt
  else_of None' = Trees.no_stmt
  else_of (Some' b k r) = Trees.a_stmt (stmt_at k r)

  pub stmts_in : {m : _} → Trees.StmtList → Row_of-Stmt m → Trees.StmtList
  stmts_in xs end_of-Stmt = xs
  stmts_in xs (more_of-Stmt l k ss) = stmts_in (Trees.and_stmt xs (stmt_at l k)) ss

abbrev pub stmt_of : Stmt → Trees.StmtTree
stmt_of s = stmt_at s.pos s.kind

abbrev pub stmts_from : Trees.StmtList → List Stmt → Trees.StmtList
stmts_from xs [] = xs
stmts_from xs (s ∷ ss) = stmts_from (Trees.and_stmt xs (stmt_of s)) ss

abbrev pub function_of : Function → Trees.FunctionTree
function_of f = record { specifiers = specifiers_of f.specifiers; declarator = declarator_of f.declarator; declarations = map decl_of f.declarations.items; body = stmt_of f.body }

abbrev pub item_of : Item → Trees.ItemTree
item_of (m.Decl e) = Trees.declaration (decl_of e)
item_of (m.Function f) = Trees.definition (function_of f)

abbrev pub unit_of : Unit → Trees.UnitTree
unit_of u = record { items = map item_of u.items.items }
