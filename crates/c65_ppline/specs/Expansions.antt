-- Lines whose tokens are expanded first (C90 6.8.1, 6.8.2 and 6.8.4).
use Rattle.std.specs.Prelude.{◌≡◌, ◌⊎◌, ℕ, List, Result, Ok, Err}
use Rattle.c65_base.specs.declared.refusal.Refusal.{Refusal}
use Rattle.c65_base.specs.Answers.{Fault, Fails}
use Rattle.c65_lex.specs.declared.token.PpToken.{PpToken}
use Rattle.c65_macro.specs.Expand.{Expands, Refuses}
use Rattle.c65_macro.specs.Table.{Table}

-- What is read of a list's expansion with the spellings known then, or the expansion's own fault.
abbrev pub ReadsExpansion : {X Y : Type 0} → (X → Y) → (List (List ℕ) → List PpToken → Result Y Fault) → Table → List (List ℕ) → List PpToken → List (List ℕ) → Result X Refusal → Type 0
ReadsExpansion view read table names ts known (Ok x) = (out : List PpToken) × Expands table names ts out known × (read known out ≡ Ok (view x))
ReadsExpansion view read table names ts known (Err refusal) = Refuses refusal table names ts ⊎ ((out : List PpToken) × (now : List (List ℕ)) × Expands table names ts out now × Fails refusal (read now out))
