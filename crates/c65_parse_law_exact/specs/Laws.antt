-- The first token with which no tree within the limit goes on. The last token is the only `End`; a reading of more than
-- one step has as many as there are tokens at least.
use Rattle.std.specs.Prelude.{◌≡◌, ◌≤◌, ℕ, max, List, ◌∷◌, length, true, Err}
use Rattle.c65_base.specs.Answers.{Fault}
use Rattle.c65_scan.specs.declared.token.Token.{Token}
use Rattle.c65_tree.specs.Depth.{init_depth, decl_depth, stmt_depth, inner_depth, unit_depth}
use Rattle.c65_parse_names.specs.Scopes.{Blocks}
use Rattle.c65_decl.specs.Here.{begins_specifiers}
use Rattle.c65_decl.specs.Initialisers.{initialiser_read}
use Rattle.c65_decl.specs.Decls.{declaration_read}
use Rattle.c65_decl.specs.Statements.{statement_read}
use Rattle.c65_decl.specs.Units.{unit_read}
use Rattle.c65_parse_grammar.specs.Scopes.{Scope}
use Rattle.c65_parse_grammar.specs.Statements.{initialiser, declaration, statement}
use Rattle.c65_parse_grammar.specs.Readings.{units}
use Rattle.c65_parse_law_sound.specs.Units.{EndsOnce}
use Rattle.c65_parse_law_least.specs.Viable.{StopsAt, FewTypes}

-- C90 6.5.7
abbrev pub InitsStop : Type 0
InitsStop = (limit : ℕ) (unit : List Token) (sc : Scope) (outer : Blocks) (tokens : List Token) (fault : Fault) → 1 ≤ limit → length tokens ≤ length unit → FewTypes (sc ∷ outer) → EndsOnce tokens
    → initialiser_read limit unit (sc ∷ outer) tokens ≡ Err fault → StopsAt limit (initialiser sc) init_depth tokens fault

-- C90 6.5, where specifiers begin
abbrev pub DeclarationsStop : Type 0
DeclarationsStop = (limit : ℕ) (unit : List Token) (sc : Scope) (outer : Blocks) (tokens : List Token) (fault : Fault) → 1 ≤ limit → length tokens ≤ length unit → FewTypes (sc ∷ outer) → EndsOnce tokens → begins_specifiers (sc ∷ outer) tokens ≡ true
    → declaration_read limit unit (sc ∷ outer) tokens ≡ Err fault → StopsAt limit (declaration sc) decl_depth tokens fault

-- C90 6.6
abbrev pub StatementsStop : Type 0
StatementsStop = (limit : ℕ) (unit : List Token) (sc : Scope) (outer : Blocks) (tokens : List Token) (fault : Fault) → 1 ≤ limit → length tokens ≤ length unit → FewTypes (sc ∷ outer) → EndsOnce tokens
    → statement_read limit unit (sc ∷ outer) tokens ≡ Err fault → StopsAt limit (statement sc) (λ s. max (stmt_depth s) (inner_depth s)) tokens fault

-- C90 6.7
abbrev pub UnitsStop : Type 0
UnitsStop = (limit : ℕ) (tokens : List Token) (fault : Fault) → 1 ≤ limit → EndsOnce tokens → unit_read limit tokens ≡ Err fault → StopsAt limit units unit_depth tokens fault
