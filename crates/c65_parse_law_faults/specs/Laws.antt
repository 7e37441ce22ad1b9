-- Where a reading of tokens is refused. The last token is their only `End`; a reading of more than one step has as many
-- as there are tokens at least.
use Rattle.std.specs.Prelude.{◌≡◌, ◌≤◌, ℕ, max, List, ◌∷◌, length, Result, Ok, Err}
use Rattle.c65_base.specs.Answers.{Fault, at, large}
use Rattle.c65_base.specs.declared.refusal.Pos.{Pos}
use Rattle.c65_base.specs.declared.refusal.Refusal.{Refusal}
use Rattle.c65_base.specs.declared.refusal.Refusal.TheVariants as refusals
use Rattle.c65_scan.specs.declared.token.Token.{Token}
use Rattle.c65_tree.specs.Depth.{expr_depth, specifiers_depth, declarator_depth, type_depth, init_depth, decl_depth, stmt_depth, inner_depth, unit_depth}
use Rattle.c65_parse_names.specs.Scopes.{Blocks}
use Rattle.c65_parse.specs.declared.frame.Sort.{Sort}
use Rattle.c65_parse.specs.Reading.{expr_read, specifiers_read, declarator_read, type_read}
use Rattle.c65_decl.specs.Initialisers.{initialiser_read}
use Rattle.c65_decl.specs.Decls.{declaration_read}
use Rattle.c65_decl.specs.Statements.{statement_read}
use Rattle.c65_decl.specs.Units.{unit_read}
use Rattle.c65_parse_grammar.specs.Phrases.{given}
use Rattle.c65_parse_grammar.specs.Parts.{level}
use Rattle.c65_parse_grammar.specs.Scopes.{Scope}
use Rattle.c65_parse_grammar.specs.Expressions as g
use Rattle.c65_parse_grammar.specs.Statements.{head_specifiers, initialiser, declaration, statement}
use Rattle.c65_parse_grammar.specs.Readings.{units}
use Rattle.c65_parse_law_sound.specs.Units.{EndsOnce}
use Rattle.c65_parse_law_trees.specs.Tokens.{sort_of}
use Rattle.c65_parse_law_faults.specs.Faults.{Refuses}

-- an expression of at least this level: 0 any, 1 an assignment expression, 2 a constant expression (C90 6.3, 6.4)
abbrev pub ExprsAreRefused : Type 0
ExprsAreRefused = (limit : ℕ) (least : ℕ) (sc : Scope) (outer : Blocks) (tokens : List Token) (fault : Fault) → least ≤ 13 → EndsOnce tokens → expr_read limit least (sc ∷ outer) tokens ≡ Err fault
    → Refuses limit (expr_read limit least (sc ∷ outer)) (λ e. given (least ≤ level e) (g.expr sc e)) expr_depth tokens fault

-- C90 6.5, before a token at any place
abbrev pub SpecifiersAreRefused : Type 0
SpecifiersAreRefused = (limit : ℕ) (sc : Scope) (outer : Blocks) (l : Pos) (tokens : List Token) (fault : Fault) → EndsOnce tokens → specifiers_read limit (sc ∷ outer) tokens ≡ Err fault
    → Refuses limit (specifiers_read limit (sc ∷ outer)) (head_specifiers sc l) specifiers_depth tokens fault

-- C90 6.5.4, 6.5.5
abbrev pub DeclaratorsAreRefused : Type 0
DeclaratorsAreRefused = (limit : ℕ) (sort : Sort) (sc : Scope) (outer : Blocks) (l : Pos) (tokens : List Token) (fault : Fault) → EndsOnce tokens → declarator_read limit sort (sc ∷ outer) tokens ≡ Err fault
    → Refuses limit (declarator_read limit sort (sc ∷ outer)) (g.declarator (sort_of sort) sc l) declarator_depth tokens fault

-- C90 6.5.5
abbrev pub TypesAreRefused : Type 0
TypesAreRefused = (limit : ℕ) (sc : Scope) (outer : Blocks) (l : Pos) (tokens : List Token) (fault : Fault) → EndsOnce tokens → type_read limit (sc ∷ outer) tokens ≡ Err fault
    → Refuses limit (type_read limit (sc ∷ outer)) (g.type_name sc l) type_depth tokens fault

-- C90 6.5.7
abbrev pub InitsAreRefused : Type 0
InitsAreRefused = (limit : ℕ) (unit : List Token) (sc : Scope) (outer : Blocks) (tokens : List Token) (fault : Fault) → length tokens ≤ length unit → EndsOnce tokens → initialiser_read limit unit (sc ∷ outer) tokens ≡ Err fault
    → Refuses limit (λ ts. initialiser_read limit ts (sc ∷ outer) ts) (initialiser sc) init_depth tokens fault

-- C90 6.5
abbrev pub DeclarationsAreRefused : Type 0
DeclarationsAreRefused = (limit : ℕ) (unit : List Token) (sc : Scope) (outer : Blocks) (tokens : List Token) (fault : Fault) → length tokens ≤ length unit → EndsOnce tokens → declaration_read limit unit (sc ∷ outer) tokens ≡ Err fault
    → Refuses limit (λ ts. declaration_read limit ts (sc ∷ outer) ts) (declaration sc) decl_depth tokens fault

-- C90 6.6
abbrev pub StatementsAreRefused : Type 0
StatementsAreRefused = (limit : ℕ) (unit : List Token) (sc : Scope) (outer : Blocks) (tokens : List Token) (fault : Fault) → length tokens ≤ length unit → EndsOnce tokens → statement_read limit unit (sc ∷ outer) tokens ≡ Err fault
    → Refuses limit (λ ts. statement_read limit ts (sc ∷ outer) ts) (statement sc) (λ s. max (stmt_depth s) (inner_depth s)) tokens fault

-- C90 6.7
abbrev pub UnitsAreRefused : Type 0
UnitsAreRefused = (limit : ℕ) (tokens : List Token) (fault : Fault) → EndsOnce tokens → unit_read limit tokens ≡ Err fault → Refuses limit (unit_read limit) units unit_depth tokens fault

-- what a call of the parser answers where it has no unit: such a fault, or want of memory
abbrev pub RefusesUnit : (limit : ℕ) → {X : Type 0} → List Token → Result X Refusal → Type 0
RefusesUnit limit tokens (Ok unit) = Unit {0}
RefusesUnit limit tokens (Err refusals.OutOfMemory) = Unit {0}
RefusesUnit limit tokens (Err (refusals.At code pos)) = Refuses limit (unit_read limit) units unit_depth tokens (at code pos)
RefusesUnit limit tokens (Err (refusals.TooLarge size value)) = Refuses limit (unit_read limit) units unit_depth tokens (large size value)
RefusesUnit limit tokens (Err _) = ⊥
