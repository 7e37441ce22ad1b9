-- Lines that are fed to an expander one after another, and the expansion of all their tokens (C90 6.8.3).
use Rattle.std.specs.Prelude.{◌≡◌, ℕ, List, [], ◌∷◌, ◌++◌}
use Rattle.c65_base.specs.declared.refusal.Refusal.{Refusal}
use Rattle.c65_lex.specs.declared.token.PpToken.{PpToken}
use Rattle.c65_macro.specs.declared.feeding.Expander.{Expander}
use Rattle.c65_macro.specs.Table.{Table}
use Rattle.c65_macro.specs.Expand
use Rattle.c65_macro.specs.Feeding.{IsNew, Feeds, Rejects, Ends, EndsIn}

-- all tokens of these lines
abbrev pub whole : List (List PpToken) → List PpToken
whole [] = []
whole (line ∷ lines) = line ++ whole lines

-- these lines were fed one after another, and these tokens came out; the spellings known and the expander then
abbrev pub AreFed : Table → List (List ℕ) → Expander → List (List PpToken) → List PpToken → List (List ℕ) → Expander → Type 0
AreFed table names old [] out known new = (out ≡ []) × (known ≡ names) × (new ≡ old)
AreFed table names old (line ∷ lines) out known new = (came : List PpToken) × (more : List PpToken) × (between : List (List ℕ)) × (mid : Expander) × Feeds table names old line came between mid × AreFed table between mid lines more known new × (out ≡ came ++ more)

abbrev pub LinesAreFedAsOne : Type 0
LinesAreFedAsOne = (table : Table) (names known : List (List ℕ)) (old new : Expander) (lines : List (List PpToken)) (out : List PpToken) → AreFed table names old lines out known new → Feeds table names old (whole lines) out known new

abbrev pub FedLinesExpand : Type 0
FedLinesExpand = (table : Table) (names known end : List (List ℕ)) (start new : Expander) (lines : List (List PpToken)) (out last : List PpToken) → IsNew start → AreFed table names start lines out known new → Ends table known new last end → Expand.Expands table names (whole lines) (out ++ last) end

abbrev pub FedLinesAreRefused : Type 0
FedLinesAreRefused = (table : Table) (names known : List (List ℕ)) (start new : Expander) (lines : List (List PpToken)) (out line more : List PpToken) (e : Refusal) → IsNew start → AreFed table names start lines out known new → Rejects table known new line e → Expand.Refuses e table names (whole lines ++ (line ++ more))

abbrev pub FedLinesEndRefused : Type 0
FedLinesEndRefused = (table : Table) (names known : List (List ℕ)) (start new : Expander) (lines : List (List PpToken)) (out : List PpToken) (e : Refusal) → IsNew start → AreFed table names start lines out known new → EndsIn table known new e → Expand.Refuses e table names (whole lines)
