-- The tree of an operator with its operands.
use Rattle.c65_base.specs.declared.refusal.Pos.{Pos}
use Rattle.c65_parse_trees.specs.declared.operator.Infix.{Infix}
use Rattle.c65_parse_trees.specs.declared.operator.Infix.TheVariants as infixes
use Rattle.c65_parse_trees.specs.declared.operator.Prefix.{Prefix}
use Rattle.c65_parse_trees.specs.declared.operator.Prefix.TheVariants as prefixes
use Rattle.c65_tree.specs.Trees.{ExprTree, step, unary, sizeof_expr, binary, and_also, or_else, assign, comma}

-- C90 6.3.3
abbrev pub prefix_tree : Pos → Prefix → ExprTree → ExprTree
prefix_tree l (prefixes.Unary op) e = unary l op e
prefix_tree l (prefixes.Step how) e = step l how e
prefix_tree l prefixes.Sizeof e = sizeof_expr l e

-- C90 6.3.5 to 6.3.17
abbrev pub infix_tree : Pos → Infix → ExprTree → ExprTree → ExprTree
infix_tree l (infixes.Binary op) a b = binary l op a b
infix_tree l infixes.And a b = and_also l a b
infix_tree l infixes.Or a b = or_else l a b
infix_tree l (infixes.Assign op) a b = assign l op a b
infix_tree l infixes.Comma a b = comma l a b
