-- An expansion whose tokens come line by line (C90 6.8.3).
use Rattle.std.specs.Prelude.{◌≡◌, ℕ, List, [], ◌++◌, Option, Some, None}
use Rattle.c65_base.specs.declared.code.Code.{Code}
use Rattle.c65_base.specs.declared.code.Code.TheVariants as codes
use Rattle.c65_base.specs.declared.refusal.Pos.{Pos}
use Rattle.c65_base.specs.declared.refusal.Refusal.{Refusal}
use Rattle.c65_base.specs.declared.refusal.Refusal.TheVariants as refusals
use Rattle.c65_base.specs.Answers.{Fault, at, large}
use Rattle.c65_lex.specs.declared.token.PpToken.{PpToken}
use Rattle.c65_macro.specs.declared.sets.Node.{Node}
use Rattle.c65_macro.specs.declared.feeding.Expander.{Expander}
use Rattle.c65_macro.specs.Table.{Table}
use Rattle.c65_macro.specs.Items.{Item, Outcome, faulty, done, items, tokens}
use Rattle.c65_macro.specs.Sets.{Extends}
use Rattle.c65_macro.specs.Views.{items_of}
use Rattle.c65_macro.specs.Machine.{Stage, reached}

-- the place of a macro's name whose use is open at the end
abbrev pub open_place_of : Code → Pos → Option Pos
open_place_of codes.OpenArguments place = Some place
open_place_of _ place = None

abbrev pub open_place : Refusal → Option Pos
open_place (refusals.At code place) = open_place_of code place
open_place _ = None

-- nothing was fed
pub record IsNew (e : Expander) : Type 0 where
  pub held : e.held.items ≡ []
  pub room : e.room ≡ 500000
  pub begun : e.begun ≡ None
  pub fault : e.fault ≡ None

-- what waits, where these tokens come next and are all
abbrev pub stage_with : List Node → Expander → List PpToken → Stage
stage_with nodes e more = record { rest = items_of nodes e.held.items ++ items more; out = []; room = e.room; outside = 0 }

abbrev pub outcome_with : List Node → Table → ℕ → List (List ℕ) → Expander → List PpToken → Option Pos → Outcome (List Item)
outcome_with nodes table n names e more None = reached nodes table n names (stage_with nodes e more) [] e.begun
outcome_with nodes table n names e more (Some place) = faulty (at codes.OpenArguments place)

-- What an expansion still gives from between two lines, where these tokens come next and are all: by at most so many nested
-- steps.
abbrev pub onward : List Node → Table → ℕ → List (List ℕ) → Expander → List PpToken → Outcome (List Item)
onward nodes table n names e more = outcome_with nodes table n names e more e.fault

-- the tokens that it still gives, and the spellings known then
abbrev pub Gives : List Node → Table → List (List ℕ) → Expander → List PpToken → List PpToken → List (List ℕ) → Type 0
Gives nodes table names e more out known = (n : ℕ) × (result : List Item) × (onward nodes table n names e more ≡ done known result) × (out ≡ tokens result)

-- the fault that stops it
abbrev pub Faults : List Node → Table → List (List ℕ) → Expander → List PpToken → Fault → Type 0
Faults nodes table names e more fault = (n : ℕ) × (onward nodes table n names e more ≡ faulty fault)

-- the refusal is its fault, or want of memory
abbrev pub Refuses : Refusal → List Node → Table → List (List ℕ) → Expander → List PpToken → Type 0
Refuses refusals.OutOfMemory nodes table names e more = Unit {0}
Refuses (refusals.At code pos) nodes table names e more = Faults nodes table names e more (at code pos)
Refuses (refusals.TooLarge limit value) nodes table names e more = Faults nodes table names e more (large limit value)
Refuses _ nodes table names e more = ⊥

-- These tokens were fed, and these came out: whatever comes next, what came out goes before what it still gives.
pub record Feeds (table : Table) (names : List (List ℕ)) (old : Expander) (line out : List PpToken) (known : List (List ℕ)) (new : Expander) : Type 0 where
  pub sets : Extends old.sets new.sets
  pub gives : (nodes : List Node) → Extends new.sets nodes → (more last : List PpToken) (end : List (List ℕ)) → Gives nodes table known new more last end → Gives nodes table names old (line ++ more) (out ++ last) end
  pub faults : (nodes : List Node) → Extends new.sets nodes → (more : List PpToken) (fault : Fault) → Faults nodes table known new more fault → Faults nodes table names old (line ++ more) fault

-- the refusal of what was fed, whatever comes next
abbrev pub Rejects : Table → List (List ℕ) → Expander → List PpToken → Refusal → Type 0
Rejects table names old line e = (nodes : List Node) × Extends old.sets nodes × ((more : List PpToken) → Refuses e nodes table names old (line ++ more))

-- the list ends, and this is the rest of its expansion
abbrev pub Ends : Table → List (List ℕ) → Expander → List PpToken → List (List ℕ) → Type 0
Ends table names old out known = (nodes : List Node) × Extends old.sets nodes × Gives nodes table names old [] out known

-- the list ends, and this is its refusal
abbrev pub EndsIn : Table → List (List ℕ) → Expander → Refusal → Type 0
EndsIn table names old e = (nodes : List Node) × Extends old.sets nodes × Refuses e nodes table names old []

-- what came out was added to this
abbrev pub Adds : List PpToken → List PpToken → (List PpToken → Type 0) → Type 0
Adds old new P = (out : List PpToken) × (new ≡ old ++ out) × P out
