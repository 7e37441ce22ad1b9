-- At which token a reading ends in a fault: whatever follows that token, so that no tree within the limit goes on with it.
use Rattle.std.specs.Prelude.{◌≡◌, ◌⊎◌, ℕ, List, [], ◌∷◌, ◌++◌, Result, Err}
use Rattle.c65_base.specs.Answers.{Fault, at, large}
use Rattle.c65_base.specs.declared.refusal.Size.TheVariants.{Depth}
use Rattle.c65_scan.specs.declared.token.Token.{Token}
use Rattle.c65_parse_grammar.specs.Phrases.{Phrase}
use Rattle.c65_parse_grammar.specs.Readings.{Continues, code_of}

-- the code of the token at its place, or the limit of depth
abbrev pub IsFaultOf : Token → Fault → Type 0
IsFaultOf next fault = (fault ≡ at (code_of next.kind) next.pos) ⊎ (fault ≡ large Depth 257)

-- `next` is the token of the fault: the tokens up to it have no other answer, and no tree within the limit has them in
-- front
pub record Refuses (limit : ℕ) {A Tree : Type 0} (read : List Token → Result A Fault) (phrase : Tree → Phrase) (depth : Tree → ℕ) (tokens : List Token) (fault : Fault) : Type 0 where
  pub before : List Token
  pub next : Token
  pub others : List Token
  pub tokens_are : tokens ≡ before ++ next ∷ others
  pub fault_is : IsFaultOf next fault
  pub again : (more : List Token) → read (before ++ next ∷ more) ≡ Err fault
  pub none : Continues phrase depth limit (before ++ next ∷ []) → ⊥
