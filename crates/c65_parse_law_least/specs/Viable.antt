-- The first token with which no tree within the limit goes on.
use Rattle.std.specs.Prelude.{◌≡◌, ◌≤◌, ℕ, List, [], ◌∷◌, ◌++◌, false, Err}
use Rattle.c65_base.specs.Answers.{Fault, large}
use Rattle.c65_base.specs.declared.names.Name.{Name}
use Rattle.c65_base.specs.declared.refusal.Pos.{Pos}
use Rattle.c65_base.specs.declared.refusal.Size.TheVariants.{Depth}
use Rattle.c65_scan.specs.declared.token.Token.{Token}
use Rattle.c65_tree.specs.Depth.{expr_depth, specifiers_depth, declarator_depth, type_depth}
use Rattle.c65_parse_names.specs.Scopes.{Blocks}
use Rattle.c65_parse.specs.declared.frame.Sort.{Sort}
use Rattle.c65_parse.specs.Reading.{expr_read, specifiers_read, declarator_read, type_read}
use Rattle.c65_parse_grammar.specs.Phrases.{Phrase, given}
use Rattle.c65_parse_grammar.specs.Parts.{level}
use Rattle.c65_parse_grammar.specs.Scopes.{Scope}
use Rattle.c65_parse_grammar.specs.Expressions as g
use Rattle.c65_parse_grammar.specs.Statements.{head_specifiers}
use Rattle.c65_parse_grammar.specs.Readings.{Continues}
use Rattle.c65_parse_law_sound.specs.Units.{EndsOnce}
use Rattle.c65_parse_law_trees.specs.Tokens.{sort_of}
use Rattle.c65_parse_law_faults.specs.Faults.{IsFaultOf}

-- `next` is the token of the fault: the tokens before it are the front of a tree within the limit, and with it they are
-- not; where the fault is that of depth, they are the front of a deeper one
pub record StopsAt (limit : ℕ) {Tree : Type 0} (phrase : Tree → Phrase) (depth : Tree → ℕ) (tokens : List Token) (fault : Fault) : Type 0 where
  pub before : List Token
  pub next : Token
  pub others : List Token
  pub tokens_are : tokens ≡ before ++ next ∷ others
  pub fault_is : IsFaultOf next fault
  pub goes_on : Continues phrase depth limit before
  pub none : Continues phrase depth limit (before ++ next ∷ []) → ⊥
  pub deeper : fault ≡ large Depth 257 → (more : ℕ) × (limit ≤ more) × Continues phrase depth more (before ++ next ∷ [])

-- in each block no name from some number on is a type's: so there is always a name that can be declared
abbrev pub FewTypes : Blocks → Type 0
FewTypes [] = Unit {0}
FewTypes (block ∷ blocks) = ((least : ℕ) × ((n : Name) → least ≤ n.0 → block n ≡ false)) × FewTypes blocks

-- an expression of at least this level: 0 any, 1 an assignment expression, 2 a constant expression (C90 6.3, 6.4)
abbrev pub ExprsStop : Type 0
ExprsStop = (limit : ℕ) (least : ℕ) (sc : Scope) (outer : Blocks) (tokens : List Token) (fault : Fault) → 1 ≤ limit → least ≤ 13 → FewTypes (sc ∷ outer) → EndsOnce tokens → expr_read limit least (sc ∷ outer) tokens ≡ Err fault
    → StopsAt limit (λ e. given (least ≤ level e) (g.expr sc e)) expr_depth tokens fault

-- C90 6.5, before a token at any place
abbrev pub SpecifiersStop : Type 0
SpecifiersStop = (limit : ℕ) (sc : Scope) (outer : Blocks) (l : Pos) (tokens : List Token) (fault : Fault) → 1 ≤ limit → FewTypes (sc ∷ outer) → EndsOnce tokens → specifiers_read limit (sc ∷ outer) tokens ≡ Err fault
    → StopsAt limit (head_specifiers sc l) specifiers_depth tokens fault

-- C90 6.5.4, 6.5.5
abbrev pub DeclaratorsStop : Type 0
DeclaratorsStop = (limit : ℕ) (sort : Sort) (sc : Scope) (outer : Blocks) (l : Pos) (tokens : List Token) (fault : Fault) → 1 ≤ limit → FewTypes (sc ∷ outer) → EndsOnce tokens → declarator_read limit sort (sc ∷ outer) tokens ≡ Err fault
    → StopsAt limit (g.declarator (sort_of sort) sc l) declarator_depth tokens fault

-- C90 6.5.5
abbrev pub TypesStop : Type 0
TypesStop = (limit : ℕ) (sc : Scope) (outer : Blocks) (l : Pos) (tokens : List Token) (fault : Fault) → 1 ≤ limit → FewTypes (sc ∷ outer) → EndsOnce tokens → type_read limit (sc ∷ outer) tokens ≡ Err fault
    → StopsAt limit (g.type_name sc l) type_depth tokens fault
