-- What a call of the parser answers of the tokens at the front, exactly: the tree whose tokens stand there before the
-- first with which no tree goes on, or the first token with which none does, or that the tree is deeper than the limit.
use Rattle.std.specs.Prelude.{◌≡◌, ◌≤◌, ℕ, List, ◌∷◌, Bool, Result, Ok, Err}
use Rattle.c65_base.specs.Limits.{limit_of}
use Rattle.c65_base.specs.declared.refusal.Pos.{Pos}
use Rattle.c65_base.specs.declared.refusal.Size.TheVariants.{Depth}
use Rattle.c65_base.specs.declared.refusal.Refusal.{Refusal}
use Rattle.c65_base.specs.declared.refusal.Refusal.TheVariants as refusals
use Rattle.c65_scan.specs.declared.token.Token.{Token}
use Rattle.c65_tree.specs.Trees as t
use Rattle.c65_tree.specs.Depth.{expr_depth, specifiers_depth, declarator_depth, type_depth, unit_depth}
use Rattle.c65_parse_names.specs.Scopes.{Blocks}
use Rattle.c65_parse.specs.declared.state.Parser.{Parser}
use Rattle.c65_parse.specs.Reading.{rest_of, blocks_of}
use Rattle.c65_decl.specs.Here.{pos_here}
use Rattle.c65_parse_grammar.specs.Phrases.{Phrase, given}
use Rattle.c65_parse_grammar.specs.Parts.{level}
use Rattle.c65_parse_grammar.specs.Scopes.{Scope, after, after_specifiers, after_declarator, after_type}
use Rattle.c65_parse_grammar.specs.Expressions as g
use Rattle.c65_parse_grammar.specs.Statements.{head_specifiers}
use Rattle.c65_parse_grammar.specs.Readings.{code_of, units, IsWhole, IsRefused, IsTooDeep}
use Rattle.c65_parse_law_trees.specs.Calls.{innermost, round_it}
use Rattle.c65_parse_law_least.specs.Calls.{Stops}

-- a unit: the first token with which none within the limit goes on, unless memory ran out
abbrev pub StopsUnit : (limit : ℕ) → {X : Type 0} → List Token → Result X Refusal → Type 0
StopsUnit limit = Stops limit units unit_depth

-- from where one parser stands to where the other does, with the scope there, unless memory ran out; a phrase that is
-- refused may be told by any place behind it
abbrev pub ReadsFront : {X Tree : Type 0} → (Pos → Tree → Phrase) → (Tree → Scope) → Blocks → (Tree → ℕ) → Parser → Parser → (X → Tree) → Pos → Result X Refusal → Type 0
ReadsFront phrase behind outer depth before later view l (Ok x) = IsWhole (phrase (pos_here (rest_of later))) depth (limit_of Depth) (rest_of before) (view x) (rest_of later) × (blocks_of later ≡ behind (view x) ∷ outer)
ReadsFront phrase behind outer depth before later view l (Err refusals.OutOfMemory) = Unit {0}
ReadsFront phrase behind outer depth before later view l (Err (refusals.At code pos)) = (next : Token) × (code ≡ code_of next.kind) × (pos ≡ next.pos) × IsRefused (phrase l) depth (limit_of Depth) (rest_of before) next
ReadsFront phrase behind outer depth before later view l (Err (refusals.TooLarge size value)) = (size ≡ Depth) × (value ≡ 257) × IsTooDeep (phrase l) depth (limit_of Depth) (rest_of before)
ReadsFront phrase behind outer depth before later view l (Err _) = ⊥

-- an expression of at least this level
abbrev pub ReadsExpr : {X : Type 0} → ℕ → Parser → Parser → (X → t.ExprTree) → Result X Refusal → Type 0
ReadsExpr least before later view result = (l : Pos) → ReadsFront (λ m e. given (least ≤ level e) (g.expr (innermost (blocks_of before)) e)) (after (innermost (blocks_of before))) (round_it (blocks_of before)) expr_depth before later view l result

abbrev pub ReadsSpecifiers : {X : Type 0} → Parser → Parser → (X → t.SpecifiersTree) → Result X Refusal → Type 0
ReadsSpecifiers before later view result = (l : Pos) → ReadsFront (head_specifiers (innermost (blocks_of before))) (after_specifiers (innermost (blocks_of before))) (round_it (blocks_of before)) specifiers_depth before later view l result

-- a declarator with a name; the flag says that a type specifier stands before it
abbrev pub ReadsDeclarator : {X : Type 0} → Bool → Parser → Parser → (X → t.DeclaratorTree) → Result X Refusal → Type 0
ReadsDeclarator typed before later view result = (l : Pos) → ReadsFront (g.declarator (g.named typed) (innermost (blocks_of before))) (after_declarator (innermost (blocks_of before))) (round_it (blocks_of before)) declarator_depth before later view l result

abbrev pub ReadsType : {X : Type 0} → Parser → Parser → (X → t.TypeTree) → Result X Refusal → Type 0
ReadsType before later view result = (l : Pos) → ReadsFront (g.type_name (innermost (blocks_of before))) (after_type (innermost (blocks_of before))) (round_it (blocks_of before)) type_depth before later view l result
