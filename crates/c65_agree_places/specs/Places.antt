-- The places that lines name, and where blocks stand.
use Rattle.std.specs.Prelude.{◌≡◌, ℕ, ◌+◌, Option, Some, None, length}
use Rattle.c65_code.specs.LineState.{State, sp_of, ax_of}
use Rattle.c65_code.specs.Placement.{located}
use Rattle.c65_genframe.specs.declared.home.Home.{Home}
use Rattle.c65_genframe.specs.declared.home.Home.TheVariants as homes
use Rattle.c65_genframe.specs.Symbols.{numbers_of, object_symbol}
use Rattle.c65_genload.specs.declared.places.Place.{Place}
use Rattle.c65_genload.specs.declared.places.Place.TheVariants.{Bank, Near, Data, Far}
use Rattle.c65_agree_store.specs.Stands.{Spot, At, Banked}
use Rattle.c65_agree_state.specs.World.{World, Active}

-- the spot that a place of the active call names in a state
abbrev pub spot_in : World → Active → State → Place → Spot
spot_in g a t (Bank b) = Banked (length a.behind) b
spot_in g a t (Near o) = At (sp_of t + o)
spot_in g a t (Data sym o) = At (located g.place sym o)
spot_in g a t (Far o) = At (ax_of t + o)

-- so many bytes behind a place
abbrev pub part_at : Place → ℕ → Place
part_at (Bank b) n = Bank (b + n)
part_at (Near o) n = Near (o + n)
part_at (Data sym o) n = Data sym (o + n)
part_at (Far o) n = Far (o + n)

-- where an object of the active call is, by its home; so many bytes wait below the objects
abbrev pub home_place : World → ℕ → ℕ → Option Home → Place
home_place g pushed i None = Data (object_symbol (numbers_of g.parts) i) 0
home_place g pushed i (Some (homes.Bank b)) = Bank b
home_place g pushed i (Some (homes.Soft d)) = Near (d + pushed)

-- a spot in memory, or in regbank as the active call has it
abbrev pub IsReached : Active → Spot → Type 0
IsReached a (At at) = Unit {0}
IsReached a (Banked d i) = d ≡ length a.behind
