-- What a call of the parser accepts: a tree within the limit that the grammar derives from the tokens at the front.
use Rattle.std.specs.Prelude.{◌≡◌, ◌≤◌, ℕ, List, [], ◌∷◌, ◌++◌, Bool, Result, Ok}
use Rattle.c65_base.specs.Answers.{Gives}
use Rattle.c65_base.specs.declared.refusal.Pos.{Pos}
use Rattle.c65_base.specs.declared.refusal.Refusal.{Refusal}
use Rattle.c65_scan.specs.declared.token.Punct.TheVariants as puncts
use Rattle.c65_scan.specs.declared.token.Token.{Token}
use Rattle.c65_scan.specs.declared.token.TokenKind.TheVariants as kinds
use Rattle.c65_tree.specs.Trees as t
use Rattle.c65_tree.specs.Depth.{expr_depth, specifiers_depth, declarator_depth, type_depth}
use Rattle.c65_parse_names.specs.Scopes.{Blocks}
use Rattle.c65_parse.specs.declared.state.Parser.{Parser}
use Rattle.c65_parse.specs.Reading.{rest_of, blocks_of}
use Rattle.c65_parse_grammar.specs.Phrases.{Phrase, given}
use Rattle.c65_parse_grammar.specs.Parts.{level, has_type}
use Rattle.c65_parse_grammar.specs.Scopes.{Scope, no_types, after, after_specifiers, after_declarator, after_type}
use Rattle.c65_parse_grammar.specs.Expressions as g
use Rattle.c65_parse_grammar.specs.Statements.{head_specifiers}
use Rattle.c65_parse_law_trees.specs.Read.{EndsExpr, EndsSpecifiers}
use Rattle.c65_parse_law_trees.specs.Tokens.{NoSuffix}

-- the innermost block, and those round it
abbrev pub innermost : Blocks → Scope
innermost [] = no_types
innermost (block ∷ blocks) = block

abbrev pub round_it : Blocks → Blocks
round_it [] = []
round_it (block ∷ blocks) = blocks

-- where such a tree stands before a token that ends it, the answer is the tree, with the tokens and the scope behind
-- it, unless memory ran out
abbrev pub Accepts : (limit : ℕ) → {X Tree : Type 0} → (Scope → Pos → Tree → Phrase) → (Tree → ℕ) → (Scope → Tree → Token → Type 0) → (Scope → Tree → Scope) → Parser → Parser → (X → Tree) → Result X Refusal → Type 0
Accepts limit {X} {Tree} phrase depth ends behind before later view result = (tree : Tree) (front : List Token) (next : Token) (others : List Token)
    → rest_of before ≡ front ++ next ∷ others → phrase (innermost (blocks_of before)) next.pos tree front → depth tree ≤ limit → ends (innermost (blocks_of before)) tree next
    → Gives {Y = Tree × List Token × Blocks} (λ x. (view x, rest_of later, blocks_of later)) result (Ok (tree, next ∷ others, behind (innermost (blocks_of before)) tree ∷ round_it (blocks_of before)))

-- an expression of at least this level
abbrev pub AcceptsExpr : (limit : ℕ) → {X : Type 0} → ℕ → Parser → Parser → (X → t.ExprTree) → Result X Refusal → Type 0
AcceptsExpr limit least = Accepts limit (λ sc l e. given (least ≤ level e) (g.expr sc e)) expr_depth (λ sc e next. EndsExpr least next.kind) after

abbrev pub AcceptsSpecifiers : (limit : ℕ) → {X : Type 0} → Parser → Parser → (X → t.SpecifiersTree) → Result X Refusal → Type 0
AcceptsSpecifiers limit = Accepts limit head_specifiers specifiers_depth (λ sc q next. EndsSpecifiers (has_type q) (after_specifiers sc q) next.kind) after_specifiers

-- a declarator with a name; the flag says that a type specifier stands before it
abbrev pub AcceptsDeclarator : (limit : ℕ) → {X : Type 0} → Bool → Parser → Parser → (X → t.DeclaratorTree) → Result X Refusal → Type 0
AcceptsDeclarator limit typed = Accepts limit (g.declarator (g.named typed)) declarator_depth (λ sc d next. NoSuffix next.kind) after_declarator

abbrev pub AcceptsType : (limit : ℕ) → {X : Type 0} → Parser → Parser → (X → t.TypeTree) → Result X Refusal → Type 0
AcceptsType limit = Accepts limit g.type_name type_depth (λ sc ty next. next.kind ≡ kinds.Punct puncts.CloseParen) after_type
