-- What a reading of tokens has to be: a tree that has them, or the first token with which no tree goes on.
use Rattle.std.specs.Prelude.{◌≡◌, ℕ, ◌≤◌, List, [], ◌∷◌, ◌++◌}
use Rattle.c65_base.specs.Limits.{limit_of}
use Rattle.c65_base.specs.declared.refusal.Size.TheVariants.{Depth}
use Rattle.c65_base.specs.declared.code.Code.{Code}
use Rattle.c65_base.specs.declared.code.Code.TheVariants.{Syntax, Assembly}
use Rattle.c65_scan.specs.declared.token.Keyword.TheVariants as keywords
use Rattle.c65_scan.specs.declared.token.Token.{Token}
use Rattle.c65_scan.specs.declared.token.TokenKind.{TokenKind}
use Rattle.c65_scan.specs.declared.token.TokenKind.TheVariants as kinds
use Rattle.c65_tree.specs.Trees as t
use Rattle.c65_tree.specs.Depth.{unit_depth}
use Rattle.c65_parse_grammar.specs.Phrases.{Phrase}
use Rattle.c65_parse_grammar.specs.Scopes.{no_types}
use Rattle.c65_parse_grammar.specs.Statements.{translation_unit}

-- some tree within the limit has these tokens in front
pub record Continues {Tree : Type 0} (phrase : Tree → Phrase) (depth : Tree → ℕ) (limit : ℕ) (front : List Token) : Type 0 where
  pub tree : Tree
  pub more : List Token
  pub derives : phrase tree (front ++ more)
  pub within : depth tree ≤ limit

abbrev pub Never : {Tree : Type 0} → (Tree → Phrase) → (Tree → ℕ) → List Token → Type 0
Never phrase depth front = (limit : ℕ) → Continues phrase depth limit front → ⊥

-- the tokens before the first with which no tree goes on are those of a tree within the limit
pub record IsWhole {Tree : Type 0} (phrase : Tree → Phrase) (depth : Tree → ℕ) (limit : ℕ) (tokens : List Token) (tree : Tree) (rest : List Token) : Type 0 where
  pub front : List Token
  pub next : Token
  pub others : List Token
  pub rest_is : rest ≡ next ∷ others
  pub tokens_are : tokens ≡ front ++ rest
  pub derives : phrase tree front
  pub within : depth tree ≤ limit
  pub ends : Never phrase depth (front ++ next ∷ [])

-- `next` is the first token with which no tree goes on
pub record IsRefused {Tree : Type 0} (phrase : Tree → Phrase) (depth : Tree → ℕ) (limit : ℕ) (tokens : List Token) (next : Token) : Type 0 where
  pub front : List Token
  pub others : List Token
  pub tokens_are : tokens ≡ front ++ next ∷ others
  pub before : Continues phrase depth limit front
  pub never : Never phrase depth (front ++ next ∷ [])

-- `next` is the first token with which no tree within the limit goes on, and a deeper one does
pub record IsTooDeep {Tree : Type 0} (phrase : Tree → Phrase) (depth : Tree → ℕ) (limit : ℕ) (tokens : List Token) : Type 0 where
  pub front : List Token
  pub next : Token
  pub others : List Token
  pub tokens_are : tokens ≡ front ++ next ∷ others
  pub before : Continues phrase depth limit front
  pub none : Continues phrase depth limit (front ++ next ∷ []) → ⊥
  pub deeper : (more : ℕ) × Continues phrase depth more (front ++ next ∷ [])

-- the code of the token with which no tree goes on
abbrev pub code_of : TokenKind → Code
code_of (kinds.Keyword keywords.Asm) = Assembly
code_of (kinds.Keyword keywords.UnderscoredAsm) = Assembly
code_of _ = Syntax

-- whole units, to their end
abbrev pub units : t.UnitTree → Phrase
units = translation_unit no_types

pub record IsUnitWithin (limit : ℕ) (tokens : List Token) (unit : t.UnitTree) : Type 0 where
  pub derives : units unit tokens
  pub within : unit_depth unit ≤ limit

abbrev pub IsUnit : List Token → t.UnitTree → Type 0
IsUnit = IsUnitWithin (limit_of Depth)

abbrev pub IsNoUnit : List Token → Token → Type 0
IsNoUnit = IsRefused units unit_depth (limit_of Depth)

abbrev pub IsTooDeepUnit : List Token → Type 0
IsTooDeepUnit = IsTooDeep units unit_depth (limit_of Depth)
