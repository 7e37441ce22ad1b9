-- A greater limit of depth changes nothing but faults of depth.
use Rattle.std.specs.Prelude.{◌≡◌, ◌⊎◌, ◌≤◌, ℕ, List, Result, Err}
use Rattle.c65_base.specs.Answers.{Fault, large}
use Rattle.c65_base.specs.declared.refusal.Size.TheVariants.{Depth}
use Rattle.c65_scan.specs.declared.token.Token.{Token}
use Rattle.c65_parse_names.specs.Scopes.{Blocks}
use Rattle.c65_parse.specs.declared.frame.Sort.{Sort}
use Rattle.c65_parse.specs.Reading.{Answer, expr_read, specifiers_read, declarator_read, type_read}

-- the first is too deep, or both answer the same
abbrev pub Grows : {A : Type 0} → Result A Fault → Result A Fault → Type 0
Grows r s = (r ≡ Err (large Depth 257)) ⊎ (r ≡ s)

-- so for each limit and each that is not less
abbrev pub Growing : {A : Type 0} → (ℕ → Result A Fault) → Type 0
Growing read = (limit more : ℕ) → limit ≤ more → Grows (read limit) (read more)

-- so wherever it reads
abbrev pub GrowsEverywhere : {A : Type 0} → (ℕ → Blocks → List Token → Answer A) → Type 0
GrowsEverywhere read = (scope : Blocks) (tokens : List Token) → Growing (λ limit. read limit scope tokens)

-- an expression of at least this level (C90 6.3, 6.4)
abbrev pub ExprsGrow : Type 0
ExprsGrow = (least : ℕ) → GrowsEverywhere (λ limit. expr_read limit least)

-- C90 6.5
abbrev pub SpecifiersGrow : Type 0
SpecifiersGrow = GrowsEverywhere specifiers_read

-- C90 6.5.4, 6.5.5
abbrev pub DeclaratorsGrow : Type 0
DeclaratorsGrow = (sort : Sort) → GrowsEverywhere (λ limit. declarator_read limit sort)

-- C90 6.5.5
abbrev pub TypesGrow : Type 0
TypesGrow = GrowsEverywhere type_read
