-- Where the parts of objects of blocks lie that are set (C90 6.5.7).
use Rattle.std.specs.Prelude.{◌≡◌, ℕ, ◌+◌, ◌%◌, ◌<◌, ◌≤◌, false, true, List, ◌∷◌, ◌++◌, Some, None}
use Rattle.c65_mach.specs.declared.rows.Op.TheVariants.{Sta, Stx}
use Rattle.c65_meaning.specs.Store as values
use Rattle.c65_meaning.specs.Store.{Value}
use Rattle.c65_meaning.specs.Shapes.{object_in, object_size, lives_in_frame}
use Rattle.c65_code.specs.declared.line.Line.{Line}
use Rattle.c65_code.specs.LineState.{State, ax_of}
use Rattle.c65_genframe.specs.declared.home.Home.TheVariants as homes
use Rattle.c65_genframe.specs.Frames.{home_of, is_raised}
use Rattle.c65_genload.specs.declared.places.Place.{Place}
use Rattle.c65_genload.specs.declared.places.Place.TheVariants as places
use Rattle.c65_genentry.specs.Words.{ptr1, ptr2, zero_page}
use Rattle.c65_genentry.specs.Bytes.{copy_code}
use Rattle.c65_genstmt.specs.declared.objects.Spot.{Spot}
use Rattle.c65_genstmt.specs.declared.objects.Spot.TheVariants.{Bank, Soft, Data}
use Rattle.c65_genstmt.specs.Objects.{point_code}
use Rattle.c65_agree_store.specs.Stands.{At, Placing}
use Rattle.c65_agree_state.specs.World.{World, unit_in, Active}
use Rattle.c65_agree_state.specs.Fixed.{symbol_at}

-- the place of a store there
abbrev pub place_of : Spot → Place
place_of (Bank bank) = places.Bank bank
place_of (Soft at) = places.Near at
place_of (Data sym at) = places.Data sym at

-- not in regbank
abbrev pub IsInMemory : Spot → Type 0
IsInMemory (Bank bank) = ⊥
IsInMemory _ = Unit {0}

-- a structure or union of so many bytes goes there from the address in AX
abbrev pub area_code : Spot → ℕ → ℕ → List Line
area_code spot size fresh = zero_page Sta ptr1 ∷ zero_page Stx (ptr1 + 1) ∷ (point_code ptr2 spot ++ copy_code (size % 65536) fresh)

-- a place has its address in AX
abbrev pub IsSource : Placing → Value → State → Type 0
IsSource w (values.Place b o) t = (at : ℕ) × (w b ≡ Some (At at)) × (ax_of t ≡ at + o)
IsSource w _ t = Unit {0}

-- An object of a block with from 1 to 65,535 bytes, and no parameter of a variadic function. In regbank it has at most two bytes, which the
-- frame takes; where it has one place for the whole run, none of its bytes is one of a constant.
pub record IsSettable (g : World) (a : Active) (i : ℕ) : Type 0 where
  pub lives : lives_in_frame (object_in (unit_in g) i) ≡ true
  pub least : 0 < object_size (unit_in g).types (object_in (unit_in g) i)
  pub few : object_size (unit_in g).types (object_in (unit_in g) i) ≤ 65535
  pub low : is_raised a.frame i ≡ false
  pub bank : (b : ℕ) → home_of a.frame i ≡ Some (homes.Bank b) → (object_size (unit_in g).types (object_in (unit_in g) i) ≤ 2) × (b + object_size (unit_in g).types (object_in (unit_in g) i) ≤ a.frame.bank)
  pub varying : (n : ℕ) → home_of a.frame i ≡ None → n < object_size (unit_in g).types (object_in (unit_in g) i) → g.place.constant (symbol_at g i + n) ≡ None
