-- What a call of the parser takes of its tokens, as the grammar says it.
use Rattle.std.specs.Prelude.{◌≤◌, ℕ, [], ◌∷◌, Bool}
use Rattle.c65_base.specs.declared.refusal.Pos.{Pos}
use Rattle.c65_tree.specs.Trees as t
use Rattle.c65_parse_names.specs.Scopes.{Blocks}
use Rattle.c65_parse.specs.declared.state.Parser.{Parser}
use Rattle.c65_parse.specs.Reading.{rest_of, blocks_of}
use Rattle.c65_parse_grammar.specs.Phrases.{Phrase, given}
use Rattle.c65_parse_grammar.specs.Parts.{level}
use Rattle.c65_parse_grammar.specs.Scopes.{Scope, no_types, after, after_specifiers, after_declarator, after_type}
use Rattle.c65_parse_grammar.specs.Expressions as g
use Rattle.c65_parse_grammar.specs.Statements.{head_specifiers}
use Rattle.c65_parse_law_sound.specs.Derived.{IsRead}

-- the innermost block, and those round it
abbrev pub innermost : Blocks → Scope
innermost [] = no_types
innermost (block ∷ blocks) = block

abbrev pub round_it : Blocks → Blocks
round_it [] = []
round_it (block ∷ blocks) = blocks

-- from where one parser stands to where the other does
abbrev pub Takes : {Tree : Type 0} → (Scope → Pos → Tree → Phrase) → (Scope → Tree → Scope) → Parser → Parser → Tree → Type 0
Takes phrase behind before later tree = IsRead (phrase (innermost (blocks_of before))) (behind (innermost (blocks_of before))) (round_it (blocks_of before)) (rest_of before) tree (rest_of later) (blocks_of later)

-- an expression of at least this level
abbrev pub TakesExpr : ℕ → Parser → Parser → t.ExprTree → Type 0
TakesExpr least = Takes (λ sc l e. given (least ≤ level e) (g.expr sc e)) after

abbrev pub TakesSpecifiers : Parser → Parser → t.SpecifiersTree → Type 0
TakesSpecifiers = Takes head_specifiers after_specifiers

-- a declarator with a name; the flag says that a type specifier stands before it
abbrev pub TakesDeclarator : Bool → Parser → Parser → t.DeclaratorTree → Type 0
TakesDeclarator typed = Takes (g.declarator (g.named typed)) after_declarator

abbrev pub TakesType : Parser → Parser → t.TypeTree → Type 0
TakesType = Takes g.type_name after_type
