-- Structures and unions of 1 to 4 bytes in the primary register, and the places where they are kept (C90 6.3.2.2, 6.6.6.4).
use Rattle.std.specs.Prelude.{◌≡◌, ℕ, ◌<◌}
use Rattle.c65_code.specs.LineState.{State, eax_of}
use Rattle.c65_genload.specs.declared.places.Place.{Place}
use Rattle.c65_genload.specs.declared.places.Place.TheVariants.{Bank}
use Rattle.c65_agree_store.specs.Stands.{Spot, stored_at}
use Rattle.c65_agree_store.specs.Laws.{byte_of}

-- A, X and sreg have so many bytes from the spot on, the lowest first
abbrev pub HasBytes : ℕ → Spot → State → State → Type 0
HasBytes n q t u = (i : ℕ) → i < n → byte_of i (eax_of u) ≡ stored_at t q i

-- regbank has no structure and no union
abbrev pub IsInMemory : Place → Type 0
IsInMemory (Bank at) = ⊥
IsInMemory _ = Unit {0}
