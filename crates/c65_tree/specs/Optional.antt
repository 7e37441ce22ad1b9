-- What may lack, as trees have it.
use Rattle.std.specs.Prelude.{Option, None, Some}
use Rattle.c65_tree.specs.declared.expr.Expr.{Expr}
use Rattle.c65_tree.specs.declared.expr.Declarator.{Declarator}
use Rattle.c65_tree.specs.Trees.{MaybeExpr, no_expr, an_expr, MaybeDeclarator, no_declarator, a_declarator}
use Rattle.c65_tree.specs.View.{expr_of, declarator_of}

abbrev pub maybe_expr : Option Expr → MaybeExpr
maybe_expr None = no_expr
maybe_expr (Some e) = an_expr (expr_of e)

abbrev pub maybe_declarator : Option Declarator → MaybeDeclarator
maybe_declarator None = no_declarator
maybe_declarator (Some d) = a_declarator (declarator_of d)
