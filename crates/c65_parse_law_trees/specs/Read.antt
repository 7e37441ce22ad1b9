-- What the grammar derives from tokens within the limit of depth is what is read of them, before a token with which it
-- does not go on.
use Rattle.std.specs.Prelude.{◌≡◌, ◌≤◌, ◌<◌, ◌⊎◌, ℕ, List, ◌∷◌, ◌++◌, Bool, true, false, Ok}
use Rattle.c65_base.specs.declared.refusal.Pos.{Pos}
use Rattle.c65_scan.specs.declared.token.Punct.TheVariants as puncts
use Rattle.c65_scan.specs.declared.token.Token.{Token}
use Rattle.c65_scan.specs.declared.token.TokenKind.{TokenKind}
use Rattle.c65_scan.specs.declared.token.TokenKind.TheVariants as kinds
use Rattle.c65_tree.specs.Trees as t
use Rattle.c65_tree.specs.Depth.{expr_depth, specifiers_depth, declarator_depth, type_depth}
use Rattle.c65_parse_trees.specs.Signs.{sign_of_keyword, sign_of_kind, begins_specifiers, left_of}
use Rattle.c65_parse_names.specs.Scopes.{Blocks}
use Rattle.c65_parse.specs.declared.frame.Sort.{Sort}
use Rattle.c65_parse.specs.Reading.{expr_read, specifiers_read, declarator_read, type_read}
use Rattle.c65_parse_grammar.specs.Parts.{level, has_type}
use Rattle.c65_parse_grammar.specs.Scopes.{Scope, no_types, after, after_specifiers, after_declarator, after_type}
use Rattle.c65_parse_grammar.specs.Expressions as g
use Rattle.c65_parse_grammar.specs.Statements.{head_specifiers}
use Rattle.c65_parse_law_trees.specs.Tokens.{sort_of, rank, Bare, NoSuffix}

-- the token is no operator behind an operand, or makes an expression of a lower level (C90 6.3)
abbrev pub EndsExpr : ℕ → TokenKind → Type 0
EndsExpr least k = (left_of (sign_of_kind no_types k) ≡ 16) ⊎ (rank k < least)

-- an expression of at least this level: 0 any, 1 an assignment expression, 2 a constant expression (C90 6.3, 6.4)
abbrev pub ExprsAreRead : Type 0
ExprsAreRead = (limit : ℕ) (least : ℕ) (sc : Scope) (outer : Blocks) (tree : t.ExprTree) (front : List Token) (next : Token) (others : List Token)
    → g.expr sc tree front → least ≤ level tree → expr_depth tree ≤ limit → least ≤ 13 → EndsExpr least next.kind
    → expr_read limit least (sc ∷ outer) (front ++ next ∷ others) ≡ Ok (tree, next ∷ others, after sc tree ∷ outer)

-- the token is no specifier where this scope stands, a type specifier before it or none, and no brace of members
-- (C90 6.5)
abbrev pub EndsSpecifiers : Bool → Scope → TokenKind → Type 0
EndsSpecifiers typed sc (kinds.Name n) = g.takes_name (g.named typed) (sc n) ≡ true
EndsSpecifiers typed sc (kinds.Keyword k) = begins_specifiers (sign_of_keyword k) ≡ false
EndsSpecifiers typed sc (kinds.Punct puncts.OpenBrace) = ⊥
EndsSpecifiers typed sc _ = Unit {0}

-- C90 6.5; where none stand, their place is that of the token behind
abbrev pub SpecifiersAreRead : Type 0
SpecifiersAreRead = (limit : ℕ) (sc : Scope) (outer : Blocks) (tree : t.SpecifiersTree) (front : List Token) (next : Token) (others : List Token)
    → head_specifiers sc next.pos tree front → specifiers_depth tree ≤ limit → EndsSpecifiers (has_type tree) (after_specifiers sc tree) next.kind
    → specifiers_read limit (sc ∷ outer) (front ++ next ∷ others) ≡ Ok (tree, next ∷ others, after_specifiers sc tree ∷ outer)

-- where the name may lack, the place of the token behind counts
abbrev pub EndsDeclarator : Bool → Pos → Token → Type 0
EndsDeclarator true l next = NoSuffix next.kind × Bare next.kind × (next.pos ≡ l)
EndsDeclarator false l next = NoSuffix next.kind

-- C90 6.5.4, 6.5.5
abbrev pub DeclaratorsAreRead : Type 0
DeclaratorsAreRead = (limit : ℕ) (sort : Sort) (sc : Scope) (outer : Blocks) (l : Pos) (tree : t.DeclaratorTree) (front : List Token) (next : Token) (others : List Token)
    → g.declarator (sort_of sort) sc l tree front → declarator_depth tree ≤ limit → EndsDeclarator (g.may_lack (sort_of sort)) l next
    → declarator_read limit sort (sc ∷ outer) (front ++ next ∷ others) ≡ Ok (tree, next ∷ others, after_declarator sc tree ∷ outer)

-- C90 6.5.5: a type name stands in parentheses
abbrev pub TypesAreRead : Type 0
TypesAreRead = (limit : ℕ) (sc : Scope) (outer : Blocks) (tree : t.TypeTree) (front : List Token) (next : Token) (others : List Token)
    → g.type_name sc next.pos tree front → type_depth tree ≤ limit → next.kind ≡ kinds.Punct puncts.CloseParen
    → type_read limit (sc ∷ outer) (front ++ next ∷ others) ≡ Ok (tree, next ∷ others, after_type sc tree ∷ outer)
