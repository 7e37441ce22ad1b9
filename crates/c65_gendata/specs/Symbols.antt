-- How the symbols of a program are spelled (docs/MACHINE.md, "Symbols").
use Rattle.std.specs.Prelude.{ℕ, suc, ◌+◌, ◌++◌, Bool, true, false, List, [], ◌∷◌, length, decimal, Option, None, Some, slice_get}
use Rattle.c65_base.specs.declared.names.Name.{Name}
use Rattle.c65_csem.specs.declared.items.Class.{Class}
use Rattle.c65_csem.specs.declared.items.Class.TheVariants.{External, Tentative, Declared}
use Rattle.c65_csem.specs.declared.items.Parts.{Parts}
use Rattle.c65_csem.specs.declared.items.TObject.{TObject}
use Rattle.c65_csem.specs.declared.items.TFunc.{TFunc}
use Rattle.c65_code.specs.declared.code.Symbol.{Symbol}

abbrev pub known : Option (List ℕ) → List ℕ
known None = []
known (Some spelling) = spelling

-- `_NAME`
abbrev pub external : List (List ℕ) → Name → List ℕ
external names name = 95 ∷ known (slice_get names name.0)

-- `sN` and `qN`
abbrev pub numbered : ℕ → ℕ → List ℕ
numbered letter n = letter ∷ decimal n

-- what has no name is never external
abbrev pub plain_spelling : List (List ℕ) → Bool → Option Name → ℕ → List ℕ
plain_spelling names true (Some name) n = external names name
plain_spelling names true None n = numbered 115 n
plain_spelling names false name n = numbered 115 n

abbrev pub plain_symbol : List (List ℕ) → Bool → Option Name → ℕ → Symbol
plain_symbol names external_name name n = record { spelling = plain_spelling names external_name name n; literal = false }

abbrev pub literal_symbol : ℕ → Symbol
literal_symbol n = record { spelling = numbered 113 n; literal = true }

-- an object with external linkage (C90 6.1.2.2)
abbrev pub is_external : Class → Bool
is_external External = true
is_external Tentative = true
is_external Declared = true
is_external _ = false

-- the first of these has the number i
abbrev pub with_objects : List (List ℕ) → ℕ → List TObject → List Symbol → List Symbol
with_objects names i [] ss = ss
with_objects names i (o ∷ os) ss = with_objects names (suc i) os (ss ++ plain_symbol names (is_external o.class) o.name i ∷ [])

abbrev pub with_literals : ℕ → List (List ℕ) → List Symbol → List Symbol
with_literals i [] ss = ss
with_literals i (bytes ∷ rest) ss = with_literals (suc i) rest (ss ++ literal_symbol i ∷ [])

abbrev pub with_functions : List (List ℕ) → ℕ → List TFunc → List Symbol → List Symbol
with_functions names i [] ss = ss
with_functions names i (f ∷ fs) ss = with_functions names (suc i) fs (ss ++ plain_symbol names f.external (Some f.name) i ∷ [])

abbrev pub symbols_of : List (List ℕ) → Parts → List Symbol
symbols_of names parts =
    let objects = length parts.objects.items in
    with_functions names (objects + length parts.literals.items) parts.funcs.items (with_literals objects parts.literals.items (with_objects names 0 parts.objects.items []))
