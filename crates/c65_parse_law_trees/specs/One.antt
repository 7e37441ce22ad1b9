-- Tokens have one tree at most within the limit of depth.
use Rattle.std.specs.Prelude.{◌≡◌, ◌≤◌, ℕ, List}
use Rattle.c65_base.specs.declared.refusal.Pos.{Pos}
use Rattle.c65_scan.specs.declared.token.Token.{Token}
use Rattle.c65_tree.specs.Depth.{expr_depth, specifiers_depth, declarator_depth, type_depth}
use Rattle.c65_parse_grammar.specs.Phrases.{Phrase}
use Rattle.c65_parse_grammar.specs.Scopes.{Scope}
use Rattle.c65_parse_grammar.specs.Expressions as g
use Rattle.c65_parse_grammar.specs.Statements.{head_specifiers}

abbrev pub HasOne : (limit : ℕ) → {Tree : Type 0} → (Tree → Phrase) → (Tree → ℕ) → Type 0
HasOne limit {Tree} phrase depth = (ts : List Token) (tree other : Tree) → phrase tree ts → phrase other ts → depth tree ≤ limit → depth other ≤ limit → tree ≡ other

-- C90 6.3
abbrev pub ExprsAreOne : Type 0
ExprsAreOne = (limit : ℕ) (sc : Scope) → HasOne limit (g.expr sc) expr_depth

-- C90 6.5
abbrev pub SpecifiersAreOne : Type 0
SpecifiersAreOne = (limit : ℕ) (sc : Scope) (behind : Pos) → HasOne limit (head_specifiers sc behind) specifiers_depth

-- C90 6.5.4, 6.5.5
abbrev pub DeclaratorsAreOne : Type 0
DeclaratorsAreOne = (limit : ℕ) (sort : g.Sort) (sc : Scope) (behind : Pos) → HasOne limit (g.declarator sort sc behind) declarator_depth

-- C90 6.5.5
abbrev pub TypesAreOne : Type 0
TypesAreOne = (limit : ℕ) (sc : Scope) (behind : Pos) → HasOne limit (g.type_name sc behind) type_depth
