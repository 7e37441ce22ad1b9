-- What the grammar derives as an initialiser or a declaration is what is read of its tokens, in no more steps than the
-- unit has tokens; and tokens have one such tree at most.
use Rattle.std.specs.Prelude.{◌≡◌, ℕ, ◌≤◌, List, ◌∷◌, ◌++◌, length, Ok}
use Rattle.c65_scan.specs.declared.token.Token.{Token}
use Rattle.c65_tree.specs.Trees as t
use Rattle.c65_tree.specs.Depth.{init_depth, decl_depth}
use Rattle.c65_parse_names.specs.Scopes.{Blocks}
use Rattle.c65_decl.specs.Initialisers.{initialiser_read}
use Rattle.c65_decl.specs.Decls.{declaration_read}
use Rattle.c65_parse_grammar.specs.Scopes.{Scope, after_init, after_decl}
use Rattle.c65_parse_grammar.specs.Statements.{initialiser, declaration}
use Rattle.c65_parse_law_trees.specs.Read.{EndsExpr}
use Rattle.c65_parse_law_trees.specs.One.{HasOne}

-- C90 6.5.7
abbrev pub InitsAreRead : Type 0
InitsAreRead = (limit : ℕ) (unit : List Token) (sc : Scope) (outer : Blocks) (tree : t.InitTree) (front : List Token) (next : Token) (others : List Token)
    → initialiser sc tree front → init_depth tree ≤ limit → length (front ++ next ∷ others) ≤ length unit → EndsExpr 1 next.kind
    → initialiser_read limit unit (sc ∷ outer) (front ++ next ∷ others) ≡ Ok (tree, next ∷ others, after_init sc tree ∷ outer)

-- C90 6.5
abbrev pub DeclarationsAreRead : Type 0
DeclarationsAreRead = (limit : ℕ) (unit : List Token) (sc : Scope) (outer : Blocks) (tree : t.DeclTree) (front : List Token) (next : Token) (others : List Token)
    → declaration sc tree front → decl_depth tree ≤ limit → length (front ++ next ∷ others) ≤ length unit
    → declaration_read limit unit (sc ∷ outer) (front ++ next ∷ others) ≡ Ok (tree, next ∷ others, after_decl sc tree ∷ outer)

abbrev pub InitsAreOne : Type 0
InitsAreOne = (limit : ℕ) (sc : Scope) → HasOne limit (initialiser sc) init_depth

abbrev pub DeclarationsAreOne : Type 0
DeclarationsAreOne = (limit : ℕ) (sc : Scope) → HasOne limit (declaration sc) decl_depth
