-- Measured trees that may lack.
use Rattle.std.specs.Prelude.{Option, None, Some}
use Rattle.c65_tree.specs.Trees.{MaybeExpr, no_expr, an_expr, MaybeDeclarator, no_declarator, a_declarator}
use Rattle.c65_tree.specs.View.{expr_of, declarator_of}
use Rattle.c65_parse_trees.specs.declared.measured.MeasuredDeclarator.{MeasuredDeclarator}
use Rattle.c65_parse_trees.specs.declared.measured.MeasuredExpr.{MeasuredExpr}

abbrev pub option_expr : Option MeasuredExpr → MaybeExpr
option_expr None = no_expr
option_expr (Some e) = an_expr (expr_of e.expr)

abbrev pub option_declarator : Option MeasuredDeclarator → MaybeDeclarator
option_declarator None = no_declarator
option_declarator (Some d) = a_declarator (declarator_of d.declarator)
