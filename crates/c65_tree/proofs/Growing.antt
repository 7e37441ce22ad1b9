-- One more item at the end of a list.
use Rattle.std.proofs.Common.{◌≡◌, List, [], ◌∷◌, ◌++◌, refl}
use Rattle.c65_tree.specs.declared.expr.Expr.{Expr}
use Rattle.c65_tree.specs.declared.expr.Specifier.{Specifier}
use Rattle.c65_tree.specs.declared.expr.Param.{Param}
use Rattle.c65_tree.specs.declared.expr.Enumerator.{Enumerator}
use Rattle.c65_tree.specs.declared.expr.MemberDeclarator.{MemberDeclarator}
use Rattle.c65_tree.specs.declared.expr.MemberDecl.{MemberDecl}
use Rattle.c65_tree.specs.declared.stmt.Initialiser.{Initialiser}
use Rattle.c65_tree.specs.declared.stmt.Stmt.{Stmt}
use Rattle.c65_tree.specs.Trees
use Rattle.c65_tree.specs.View as v

pub exprs_push : (xs : Trees.ExprList) (es : List Expr) (e : Expr) → v.exprs_from xs (es ++ e ∷ []) ≡ Trees.and_expr (v.exprs_from xs es) (v.expr_of e)
exprs_push xs [] e = refl
exprs_push xs (y ∷ es) e = exprs_push (Trees.and_expr xs (v.expr_of y)) es e

pub specifiers_push : (xs : Trees.SpecifierList) (es : List Specifier) (e : Specifier) → v.specifiers_from xs (es ++ e ∷ []) ≡ Trees.and_specifier (v.specifiers_from xs es) (v.specifier_of e)
specifiers_push xs [] e = refl
specifiers_push xs (y ∷ es) e = specifiers_push (Trees.and_specifier xs (v.specifier_of y)) es e

pub params_push : (xs : Trees.ParamList) (es : List Param) (e : Param) → v.params_from xs (es ++ e ∷ []) ≡ v.with_param (v.params_from xs es) e
params_push xs [] e = refl
params_push xs (y ∷ es) e = params_push (v.with_param xs y) es e

pub enumerators_push : (xs : Trees.EnumeratorList) (es : List Enumerator) (e : Enumerator) → v.enumerators_from xs (es ++ e ∷ []) ≡ v.with_enumerator (v.enumerators_from xs es) e
enumerators_push xs [] e = refl
enumerators_push xs (y ∷ es) e = enumerators_push (v.with_enumerator xs y) es e

pub members_push : (xs : Trees.MemberList) (es : List MemberDeclarator) (e : MemberDeclarator) → v.members_from xs (es ++ e ∷ []) ≡ v.with_member (v.members_from xs es) e
members_push xs [] e = refl
members_push xs (y ∷ es) e = members_push (v.with_member xs y) es e

pub member_decls_push : (xs : Trees.MemberDeclList) (es : List MemberDecl) (e : MemberDecl) → v.member_decls_from xs (es ++ e ∷ []) ≡ v.with_member_decl (v.member_decls_from xs es) e
member_decls_push xs [] e = refl
member_decls_push xs (y ∷ es) e = member_decls_push (v.with_member_decl xs y) es e

pub inits_push : (xs : Trees.InitList) (es : List Initialiser) (e : Initialiser) → v.inits_from xs (es ++ e ∷ []) ≡ Trees.and_init (v.inits_from xs es) (v.init_of e)
inits_push xs [] e = refl
inits_push xs (y ∷ es) e = inits_push (Trees.and_init xs (v.init_of y)) es e

pub stmts_push : (xs : Trees.StmtList) (es : List Stmt) (e : Stmt) → v.stmts_from xs (es ++ e ∷ []) ≡ Trees.and_stmt (v.stmts_from xs es) (v.stmt_of e)
stmts_push xs [] e = refl
stmts_push xs (y ∷ es) e = stmts_push (Trees.and_stmt xs (v.stmt_of y)) es e
