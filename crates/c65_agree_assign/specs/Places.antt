-- Where lines store a number, and what they leave of it.
use Rattle.std.specs.Prelude.{◌≡◌, ℕ, ◌≤◌}
use Rattle.c65_ints.specs.declared.types.IntType.{IntType}
use Rattle.c65_ints.specs.declared.types.IntType.TheVariants as I
use Rattle.c65_meaning.specs.Store.{Shape, Number}
use Rattle.c65_code.specs.LineState.{State, word_at, sp_of, ax_of, eax_of}
use Rattle.c65_genload.specs.declared.places.Extent.{Extent}
use Rattle.c65_genload.specs.declared.places.Extent.TheVariants.{One, Two, Three, Four}
use Rattle.c65_genload.specs.declared.places.Place.{Place}
use Rattle.c65_genload.specs.declared.places.Place.TheVariants.{Bank, Near, Data, Far}
use Rattle.c65_genload.specs.Places.{extent_of}
use Rattle.c65_agree_store.specs.Stands.{Spot, At}
use Rattle.c65_agree_state.specs.World.{World, Active}
use Rattle.c65_agree_places.specs.Places.{spot_in}

-- the spot of a place when its number is stored: of one behind an address that is the address that waits
abbrev pub stored_spot : World → Active → State → Place → Spot
stored_spot g a t (Far at) = At (word_at t.mem (sp_of t))
stored_spot g a t place = spot_in g a t place

-- the bytes that are stored: no number has three
abbrev pub bytes_in : Extent → ℕ
bytes_in One = 1
bytes_in Two = 2
bytes_in Three = 2
bytes_in Four = 4

-- an object in regbank has at most two bytes, and one near sp ends within 256 bytes from it
abbrev pub MayHold : Place → Extent → Type 0
MayHold (Bank at) extent = bytes_in extent ≤ 2
MayHold (Near at) extent = at ≤ 252
MayHold (Data sym at) extent = Unit {0}
MayHold (Far at) extent = Unit {0}

-- the value is still in its registers; of a byte that is stored through an address A alone is
abbrev pub IsStill : Place → Extent → State → State → Type 0
IsStill (Far at) One t u = u.regs.a ≡ t.regs.a
IsStill (Far at) Two t u = ax_of u ≡ ax_of t
IsStill (Far at) Three t u = ax_of u ≡ ax_of t
IsStill (Far at) Four t u = eax_of u ≡ eax_of t
IsStill place One t u = ax_of u ≡ ax_of t
IsStill place Two t u = ax_of u ≡ ax_of t
IsStill place Three t u = ax_of u ≡ ax_of t
IsStill place Four t u = eax_of u ≡ eax_of t

-- how many bytes a number or a pointer is stored in
abbrev pub extent_in : Shape → Extent
extent_in (Number t) = extent_of t
extent_in _ = Two

-- the type as which a number or a pointer is kept
abbrev pub kind_in : Shape → IntType
kind_in (Number t) = t
kind_in _ = I.UInt
