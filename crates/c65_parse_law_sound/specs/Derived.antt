-- What was read of tokens is what the grammar derives from them.
use Rattle.std.specs.Prelude.{◌≡◌, ◌≤◌, ℕ, List, ◌∷◌, ◌++◌, Ok}
use Rattle.c65_base.specs.declared.refusal.Pos.{Pos}
use Rattle.c65_scan.specs.declared.token.Token.{Token}
use Rattle.c65_tree.specs.Trees as t
use Rattle.c65_parse_names.specs.Scopes.{Blocks}
use Rattle.c65_parse.specs.declared.frame.Sort.{Sort}
use Rattle.c65_parse.specs.declared.frame.Sort.TheVariants as sorts
use Rattle.c65_parse.specs.Reading.{expr_read, specifiers_read, declarator_read, type_read}
use Rattle.c65_parse_grammar.specs.Phrases.{Phrase, given}
use Rattle.c65_parse_grammar.specs.Parts.{level}
use Rattle.c65_parse_grammar.specs.Scopes.{Scope, after, after_specifiers, after_declarator, after_type}
use Rattle.c65_parse_grammar.specs.Expressions as g
use Rattle.c65_parse_grammar.specs.Statements.{head_specifiers}

-- the tokens before the first that is left are the tree's, which may depend on where that one stands; the innermost
-- block is as the tree leaves it, and those round it are as they were
pub record IsRead {Tree : Type 0} (phrase : Pos → Tree → Phrase) (behind : Tree → Scope) (outer : Blocks) (tokens : List Token) (tree : Tree) (rest : List Token) (scope : Blocks) : Type 0 where
  pub front : List Token
  pub next : Token
  pub others : List Token
  pub rest_is : rest ≡ next ∷ others
  pub tokens_are : tokens ≡ front ++ rest
  pub derives : phrase next.pos tree front
  pub scope_is : scope ≡ behind tree ∷ outer

abbrev pub sort_of : Sort → g.Sort
sort_of (sorts.Named typed) = g.named typed
sort_of (sorts.Param typed) = g.param typed
sort_of (sorts.Member typed) = g.member typed
sort_of sorts.Abstract = g.abstract

-- an expression of at least this level: 0 any, 1 an assignment expression, 2 a constant expression (C90 6.3, 6.4)
abbrev pub ExprsAreDerived : Type 0
ExprsAreDerived = (limit : ℕ) (least : ℕ) (sc : Scope) (outer : Blocks) (tokens : List Token) (tree : t.ExprTree) (rest : List Token) (scope : Blocks) → least ≤ 13
    → expr_read limit least (sc ∷ outer) tokens ≡ Ok (tree, rest, scope) → IsRead (λ l e. given (least ≤ level e) (g.expr sc e)) (after sc) outer tokens tree rest scope

-- C90 6.5; where none stand, their place is that of the token behind
abbrev pub SpecifiersAreDerived : Type 0
SpecifiersAreDerived = (limit : ℕ) (sc : Scope) (outer : Blocks) (tokens : List Token) (tree : t.SpecifiersTree) (rest : List Token) (scope : Blocks)
    → specifiers_read limit (sc ∷ outer) tokens ≡ Ok (tree, rest, scope) → IsRead (head_specifiers sc) (after_specifiers sc) outer tokens tree rest scope

-- C90 6.5.4, 6.5.5
abbrev pub DeclaratorsAreDerived : Type 0
DeclaratorsAreDerived = (limit : ℕ) (sort : Sort) (sc : Scope) (outer : Blocks) (tokens : List Token) (tree : t.DeclaratorTree) (rest : List Token) (scope : Blocks)
    → declarator_read limit sort (sc ∷ outer) tokens ≡ Ok (tree, rest, scope) → IsRead (g.declarator (sort_of sort) sc) (after_declarator sc) outer tokens tree rest scope

-- C90 6.5.5
abbrev pub TypesAreDerived : Type 0
TypesAreDerived = (limit : ℕ) (sc : Scope) (outer : Blocks) (tokens : List Token) (tree : t.TypeTree) (rest : List Token) (scope : Blocks)
    → type_read limit (sc ∷ outer) tokens ≡ Ok (tree, rest, scope) → IsRead (g.type_name sc) (after_type sc) outer tokens tree rest scope
