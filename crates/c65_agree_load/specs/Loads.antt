-- Bytes that lines load into the primary register (C90 6.2.2.1).
use Rattle.std.specs.Prelude.{◌≡◌, ℕ, ◌+◌, ◌<◌, ◌≤◌}
use Rattle.c65_meaning.specs.Store.{Block}
use Rattle.c65_meaning.specs.State.{Scene}
use Rattle.c65_code.specs.LineState.{State, sp_of, ax_of, eax_of}
use Rattle.c65_code.specs.Steady.{IsOpen}
use Rattle.c65_genload.specs.declared.places.Extent.{Extent}
use Rattle.c65_genload.specs.declared.places.Extent.TheVariants.{One, Two, Three, Four}
use Rattle.c65_genload.specs.declared.places.Place.{Place}
use Rattle.c65_genload.specs.declared.places.Place.TheVariants.{Bank, Near, Data, Far}
use Rattle.c65_agree_store.specs.Stands.{Spot, At, Banked, Placing, IsAt, beyond, stored_at}
use Rattle.c65_agree_store.specs.Laws.{number_in}
use Rattle.c65_agree_state.specs.World.{World, Active}
use Rattle.c65_agree_places.specs.Places.{spot_in, IsReached}

-- so many bytes that lines may reach
abbrev pub CanLoad : World → State → Spot → ℕ → Type 0
CanLoad g t (At at) n = (i : ℕ) → i < n → IsOpen g.place (sp_of t) (at + i)
CanLoad g t (Banked d i) n = i + n ≤ 6

-- the byte behind the last one is at most so far from sp, or from the address in AX, as Y tells
abbrev pub IsNear : Place → Type 0
IsNear (Bank at) = Unit {0}
IsNear (Near at) = at ≤ 252
IsNear (Data sym at) = at < 65536
IsNear (Far at) = at ≤ 250

-- A, AX or EAX has the bytes from the spot on, the lowest first; no number has three
abbrev pub IsLoaded : Extent → Spot → State → State → Type 0
IsLoaded One q t u = u.regs.a ≡ number_in (stored_at t q) 1 0
IsLoaded Two q t u = ax_of u ≡ number_in (stored_at t q) 2 0
IsLoaded Three q t u = Unit {0}
IsLoaded Four q t u = eax_of u ≡ number_in (stored_at t q) 4 0

abbrev pub bytes_of : Extent → ℕ
bytes_of One = 1
bytes_of Two = 2
bytes_of Three = 3
bytes_of Four = 4

-- regbank has no number of four bytes
abbrev pub IsKeptThere : Place → Extent → Type 0
IsKeptThere (Bank at) Four = ⊥
IsKeptThere place Three = ⊥
IsKeptThere place extent = Unit {0}

-- a live block stands where the lines load, in memory or in the active call's regbank
abbrev pub IsMeantThere : World → Active → Scene → Placing → State → Place → ℕ → ℕ → Type 0
IsMeantThere g a c w t place b o = (x : Block) (q : Spot) → IsAt c.store w b x q → IsReached a q × (spot_in g a t place ≡ beyond q o)
