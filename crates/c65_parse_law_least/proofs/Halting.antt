-- A fault with all that is said of it, and what is said of an answer.
use Rattle.std.specs.Prelude.{◌≡◌, ◌≤◌, ℕ, List, [], ◌∷◌, ◌++◌, Ok, Err}
use Rattle.std.proofs.Common.{subst}
use Rattle.c65_base.specs.Answers.{Fault, large}
use Rattle.c65_base.specs.declared.refusal.Size.TheVariants.{Depth}
use Rattle.c65_scan.specs.declared.token.Token.{Token}
use Rattle.c65_parse.specs.Reading.{Answer}
use Rattle.c65_parse_grammar.specs.Phrases.{Phrase}
use Rattle.c65_parse_grammar.specs.Readings.{Continues}
use Rattle.c65_parse_law_faults.specs.Faults.{IsFaultOf}
use Rattle.c65_parse_law_least.specs.Viable.{StopsAt, FewTypes}

-- the fields of `StopsAt`, and that no token behind the one of the fault counts
pub record Halted (limit : ℕ) {Tree : Type 0} (phrase : Tree → Phrase) (depth : Tree → ℕ) (read : List Token → Answer Tree) (tokens : List Token) (fault : Fault) : Type 0 where
  pub before : List Token
  pub next : Token
  pub others : List Token
  pub tokens_are : tokens ≡ before ++ next ∷ others
  pub fault_is : IsFaultOf next fault
  pub goes_on : Continues phrase depth limit before
  pub none : Continues phrase depth limit (before ++ next ∷ []) → ⊥
  pub deeper : fault ≡ large Depth 257 → (more : ℕ) × (limit ≤ more) × Continues phrase depth more (before ++ next ∷ [])
  pub again : (more : List Token) → read (before ++ next ∷ more) ≡ Err fault

pub stops : (limit : ℕ) → {Tree : Type 0} (phrase : Tree → Phrase) (depth : Tree → ℕ) (read : List Token → Answer Tree) (tokens : List Token) (fault : Fault) → Halted limit phrase depth read tokens fault → StopsAt limit phrase depth tokens fault
stops limit phrase depth read tokens fault h = record { before = h.before; next = h.next; others = h.others; tokens_are = h.tokens_are; fault_is = h.fault_is; goes_on = h.goes_on; none = h.none; deeper = h.deeper }

-- behind an answer few names are types
abbrev pub Halts : (limit : ℕ) → {Tree : Type 0} → (Tree → Phrase) → (Tree → ℕ) → (List Token → Answer Tree) → List Token → Answer Tree → Type 0
Halts limit phrase depth read tokens (Ok (tree, rest, behind)) = FewTypes behind
Halts limit phrase depth read tokens (Err fault) = Halted limit phrase depth read tokens fault

pub stops_by : (limit : ℕ) → {Tree : Type 0} (phrase : Tree → Phrase) (depth : Tree → ℕ) (read : List Token → Answer Tree) (tokens : List Token) (fault : Fault) (r : Answer Tree) → Halts limit phrase depth read tokens r → r ≡ Err fault → StopsAt limit phrase depth tokens fault
stops_by limit phrase depth read tokens fault r h e = stops limit phrase depth read tokens fault (subst (Halts limit phrase depth read tokens) e h)

-- where more tokens are the front of a tree
pub continues_as : (limit : ℕ) → {Tree : Type 0} (phrase other : Tree → Phrase) (depth : Tree → ℕ) (front : List Token) → ((tree : Tree) (ts : List Token) → phrase tree ts → other tree ts) → Continues phrase depth limit front → Continues other depth limit front
continues_as limit phrase other depth front f k = record { tree = k.tree; more = k.more; derives = f k.tree (front ++ k.more) k.derives; within = k.within }
