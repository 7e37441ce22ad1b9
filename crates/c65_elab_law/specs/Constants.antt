-- The constants of a tree that the grammar derives are those of its tokens.
use Rattle.std.specs.Prelude.{Bool, List}
use Rattle.c65_base.specs.declared.refusal.Pos.{Pos}
use Rattle.c65_scan.specs.declared.token.Token.{Token}
use Rattle.c65_tree.specs.Trees as t
use Rattle.c65_parse_grammar.specs.Expressions.{Sort, expr, type_name, specifiers, declarator}
use Rattle.c65_parse_grammar.specs.Scopes.{Scope}
use Rattle.c65_elab_law.specs.Numbers.{AreRangedTokens, IsRanged, IsRangedType, AreRangedSpecifiers, IsRangedDeclarator}

pub record ConstantsAreRanged : Type 0 where
  pub expressions : (sc : Scope) (e : t.ExprTree) (ts : List Token) → AreRangedTokens ts → expr sc e ts → IsRanged e
  pub type_names : (sc : Scope) (p : Pos) (m : t.TypeTree) (ts : List Token) → AreRangedTokens ts → type_name sc p m ts → IsRangedType m
  pub specifiers : (sc : Scope) (storage : Bool) (q : t.SpecifiersTree) (ts : List Token) → AreRangedTokens ts → specifiers sc storage q ts → AreRangedSpecifiers q
  pub declarators : (sort : Sort) (sc : Scope) (p : Pos) (d : t.DeclaratorTree) (ts : List Token) → AreRangedTokens ts → declarator sort sc p d ts → IsRangedDeclarator d
