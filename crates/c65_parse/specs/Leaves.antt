-- A measured expression that may lack.
use Rattle.std.specs.Prelude.{Option, None, Some}
use Rattle.c65_tree.specs.Trees.{ExprTree}
use Rattle.c65_tree.specs.View.{expr_of}
use Rattle.c65_parse_trees.specs.declared.measured.MeasuredExpr.{MeasuredExpr}

abbrev pub leaf_tree : Option MeasuredExpr → Option ExprTree
leaf_tree None = None
leaf_tree (Some e) = Some (expr_of e.expr)
