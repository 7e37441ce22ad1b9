-- The enumerators that trees declare (C90 6.5.2.2), behind names that were met before. What stands among the
-- parameters inside a tree is declared for these alone.
use Rattle.std.specs.Prelude.{List, [], ◌∷◌, ◌++◌, Option, Some, None}
use Rattle.c65_base.specs.declared.names.Name.{Name}
use Rattle.c65_tree.specs.declared.expr.Expr.{Expr}
use Rattle.c65_tree.specs.declared.expr.Specifier.{Specifier}
use Rattle.c65_tree.specs.declared.expr.MemberDecl.{MemberDecl}
use Rattle.c65_tree.specs.declared.expr.MemberDeclarator.{MemberDeclarator}
use Rattle.c65_tree.specs.declared.expr.Enumerator.{Enumerator}
use Rattle.c65_tree.specs.declared.expr.Declarator.{Declarator}
use Rattle.c65_tree.specs.Trees as t
use Rattle.c65_tree.specs.View.{expr_of, specifier_of, declarator_of, with_member_decl, with_member, with_enumerator}

abbrev mutual
  pub in_expr : List Name → t.ExprTree → List Name
  in_expr ns (t.name l n) = ns
  in_expr ns (t.number l ty n) = ns
  in_expr ns (t.text l bs) = ns
  in_expr ns (t.paren l e) = in_expr ns e
  in_expr ns (t.index l a i) = in_expr (in_expr ns a) i
  in_expr ns (t.call l f es) = in_exprs (in_expr ns f) es
  in_expr ns (t.member l e arrow n) = in_expr ns e
  in_expr ns (t.step l how e) = in_expr ns e
  in_expr ns (t.unary l op e) = in_expr ns e
  in_expr ns (t.sizeof_expr l e) = in_expr ns e
  in_expr ns (t.sizeof_type l ty) = in_type ns ty
  in_expr ns (t.cast l ty e) = in_expr (in_type ns ty) e
  in_expr ns (t.binary l op a b) = in_expr (in_expr ns a) b
  in_expr ns (t.and_also l a b) = in_expr (in_expr ns a) b
  in_expr ns (t.or_else l a b) = in_expr (in_expr ns a) b
  in_expr ns (t.conditional l c a b) = in_expr (in_expr (in_expr ns c) a) b
  in_expr ns (t.assign l op a b) = in_expr (in_expr ns a) b
  in_expr ns (t.comma l a b) = in_expr (in_expr ns a) b

  pub in_exprs : List Name → t.ExprList → List Name
  in_exprs ns t.no_exprs = ns
  in_exprs ns (t.and_expr es e) = in_expr (in_exprs ns es) e

  pub in_maybe : List Name → t.MaybeExpr → List Name
  in_maybe ns t.no_expr = ns
  in_maybe ns (t.an_expr e) = in_expr ns e

  pub in_type : List Name → t.TypeTree → List Name
  in_type ns (t.type_name q d) = in_declarator (in_specifiers ns q) d

  pub in_specifiers : List Name → t.SpecifiersTree → List Name
  in_specifiers ns (t.specifiers l qs) = in_list ns qs

  pub in_list : List Name → t.SpecifierList → List Name
  in_list ns t.no_specifiers = ns
  in_list ns (t.and_specifier qs q) = in_specifier (in_list ns qs) q

  pub in_specifier : List Name → t.SpecifierTree → List Name
  in_specifier ns (t.storage l c) = ns
  in_specifier ns (t.word l w) = ns
  in_specifier ns (t.typedef_name l n) = ns
  in_specifier ns (t.tagged l union tag ms) = in_members ns ms
  in_specifier ns (t.enum l tag es) = in_enumerators ns es

  pub in_members : List Name → t.MaybeMembers → List Name
  in_members ns t.no_members = ns
  in_members ns (t.the_members ds) = in_member_decls ns ds

  pub in_member_decls : List Name → t.MemberDeclList → List Name
  in_member_decls ns t.no_member_decls = ns
  in_member_decls ns (t.and_member_decl ds q ms) = in_member_list (in_specifiers (in_member_decls ns ds) q) ms

  pub in_member_list : List Name → t.MemberList → List Name
  in_member_list ns t.no_more_members = ns
  in_member_list ns (t.and_member ms l d w) = in_maybe (in_maybe_declarator (in_member_list ns ms) d) w

  pub in_maybe_declarator : List Name → t.MaybeDeclarator → List Name
  in_maybe_declarator ns t.no_declarator = ns
  in_maybe_declarator ns (t.a_declarator d) = in_declarator ns d

  pub in_enumerators : List Name → t.MaybeEnumerators → List Name
  in_enumerators ns t.no_enumerators = ns
  in_enumerators ns (t.the_enumerators es) = in_enumerator_list ns es

  -- an enumerator is declared behind its value (C90 6.1.2.1)
  pub in_enumerator_list : List Name → t.EnumeratorList → List Name
  in_enumerator_list ns t.no_more_enumerators = ns
  in_enumerator_list ns (t.and_enumerator es l n v) = in_maybe (in_enumerator_list ns es) v ++ n ∷ []

  pub in_declarator : List Name → t.DeclaratorTree → List Name
  in_declarator ns (t.nameless l) = ns
  in_declarator ns (t.named l n) = ns
  in_declarator ns (t.grouped l d) = in_declarator ns d
  in_declarator ns (t.calling l cdecl d) = in_declarator ns d
  in_declarator ns (t.pointer l c v d) = in_declarator ns d
  in_declarator ns (t.array l d n) = in_maybe (in_declarator ns d) n
  in_declarator ns (t.function l d ps) = in_declarator ns d

-- the same by the lists of the code, from the first on
abbrev pub each : {A : Type 0} → (List Name → A → List Name) → List Name → List A → List Name
each f ns [] = ns
each f ns (x ∷ xs) = each f (f ns x) xs

abbrev pub one_expr : List Name → Expr → List Name
one_expr ns e = in_expr ns (expr_of e)

abbrev pub one_specifier : List Name → Specifier → List Name
one_specifier ns q = in_specifier ns (specifier_of q)

abbrev pub one_member_decl : List Name → MemberDecl → List Name
one_member_decl ns d = in_member_decls ns (with_member_decl t.no_member_decls d)

abbrev pub one_member : List Name → MemberDeclarator → List Name
one_member ns m = in_member_list ns (with_member t.no_more_members m)

abbrev pub one_enumerator : List Name → Enumerator → List Name
one_enumerator ns e = in_enumerator_list ns (with_enumerator t.no_more_enumerators e)

abbrev pub in_option : List Name → Option Expr → List Name
in_option ns None = ns
in_option ns (Some e) = in_expr ns (expr_of e)

abbrev pub in_option_declarator : List Name → Option Declarator → List Name
in_option_declarator ns None = ns
in_option_declarator ns (Some d) = in_declarator ns (declarator_of d)
