-- What a call of the parser refuses: the first token with which no tree goes on, or memory ran out.
use Rattle.std.specs.Prelude.{◌≤◌, ℕ, List, Bool, Result, Ok, Err}
use Rattle.c65_base.specs.Answers.{at, large}
use Rattle.c65_base.specs.declared.refusal.Pos.{Pos}
use Rattle.c65_base.specs.declared.refusal.Refusal.{Refusal}
use Rattle.c65_base.specs.declared.refusal.Refusal.TheVariants as refusals
use Rattle.c65_scan.specs.declared.token.Token.{Token}
use Rattle.c65_tree.specs.Depth.{expr_depth, specifiers_depth, declarator_depth, type_depth}
use Rattle.c65_parse.specs.declared.state.Parser.{Parser}
use Rattle.c65_parse.specs.Reading.{rest_of, blocks_of}
use Rattle.c65_parse_grammar.specs.Phrases.{Phrase, given}
use Rattle.c65_parse_grammar.specs.Parts.{level}
use Rattle.c65_parse_grammar.specs.Expressions as g
use Rattle.c65_parse_grammar.specs.Statements.{head_specifiers}
use Rattle.c65_parse_law_trees.specs.Calls.{innermost}
use Rattle.c65_parse_law_least.specs.Viable.{StopsAt}

abbrev pub Stops : (limit : ℕ) → {X Tree : Type 0} → (Tree → Phrase) → (Tree → ℕ) → List Token → Result X Refusal → Type 0
Stops limit phrase depth tokens (Ok x) = Unit {0}
Stops limit phrase depth tokens (Err refusals.OutOfMemory) = Unit {0}
Stops limit phrase depth tokens (Err (refusals.At code pos)) = StopsAt limit phrase depth tokens (at code pos)
Stops limit phrase depth tokens (Err (refusals.TooLarge size value)) = StopsAt limit phrase depth tokens (large size value)
Stops limit phrase depth tokens (Err _) = ⊥

-- an expression of at least this level
abbrev pub StopsExpr : (limit : ℕ) → {X : Type 0} → ℕ → Parser → Result X Refusal → Type 0
StopsExpr limit least before = Stops limit (λ e. given (least ≤ level e) (g.expr (innermost (blocks_of before)) e)) expr_depth (rest_of before)

-- specifiers before a token at any place
abbrev pub StopsSpecifiers : (limit : ℕ) → {X : Type 0} → Parser → Result X Refusal → Type 0
StopsSpecifiers limit before result = (l : Pos) → Stops limit (head_specifiers (innermost (blocks_of before)) l) specifiers_depth (rest_of before) result

-- a declarator with a name; the flag says that a type specifier stands before it
abbrev pub StopsDeclarator : (limit : ℕ) → {X : Type 0} → Bool → Parser → Result X Refusal → Type 0
StopsDeclarator limit typed before result = (l : Pos) → Stops limit (g.declarator (g.named typed) (innermost (blocks_of before)) l) declarator_depth (rest_of before) result

-- a type name
abbrev pub StopsType : (limit : ℕ) → {X : Type 0} → Parser → Result X Refusal → Type 0
StopsType limit before result = (l : Pos) → Stops limit (g.type_name (innermost (blocks_of before)) l) type_depth (rest_of before) result
