-- Loads of numbers and pointers in each manner, and tests of what is loaded (C90 6.2.2.1, 6.3.3.3, 6.6.4.1).
use Rattle.std.specs.Prelude.{◌≡◌, ℕ, ◌≤◌, Bool, true, false, Some, None}
use Rattle.c65_ctype.specs.Trees.{QTy}
use Rattle.c65_ctype.specs.Views.{types_of}
use Rattle.c65_csem.specs.Trees.{Typed, node, object, load}
use Rattle.c65_csem.specs.Places.{is_bit_field}
use Rattle.c65_csem.specs.Typed.{IsTyped}
use Rattle.c65_csem_need.specs.Needs.{need}
use Rattle.c65_meaning.specs.Items.{plan}
use Rattle.c65_code.specs.Placement.{IsPlacement}
use Rattle.c65_genframe.specs.declared.home.Home.TheVariants as homes
use Rattle.c65_genframe.specs.Frames.{home_of}
use Rattle.c65_genload.specs.declared.places.Place.TheVariants.{Bank}
use Rattle.c65_genload.specs.Places.{extent_of}
use Rattle.c65_genexpr.specs.declared.destination.Destination.{Destination}
use Rattle.c65_genexpr.specs.declared.wanted.Wanted.TheVariants.{Test}
use Rattle.c65_genexpr.specs.Elements.{element_at}
use Rattle.c65_genexpr.specs.Operating.{is_signed_char, is_light_load}
use Rattle.c65_genexpr.specs.Places.{place_of}
use Rattle.c65_genexpr.specs.Types.{access_of}
use Rattle.c65_genexpr.specs.Code.{expr_code}
use Rattle.c65_agree_state.specs.World.{World, unit_in, Active}
use Rattle.c65_agree_state.specs.Exprs.{shape_in, TestDoes}
use Rattle.c65_agree_assign.specs.Places.{kind_in}
use Rattle.c65_agree_load.specs.Loads.{IsKeptThere}
use Rattle.c65_agree_load.specs.Objects.{IsHomed}
use Rattle.c65_agree_operate.specs.Manners.{Manner, usual}
use Rattle.c65_agree_compare.specs.Branches.{BranchesIn}
use Rattle.c65_agree_loading.specs.Bases.{BaseDoesIn, ValueDoesIn}

-- a load of a number or a pointer that is no bit-field, and no element of a small array
pub record IsWholeLoad (g : World) (a : Active) (t : QTy) (e : Typed) : Type 0 where
  pub parts : a.frame.parts ≡ g.parts
  pub typed : IsTyped (unit_in g) (node t (load e))
  pub whole : is_bit_field (unit_in g).types e ≡ false
  pub single : element_at a.frame e ≡ None

-- where the manner is light, its lines leave ptr2 if those of the base do
abbrev pub IsLightLoad : Active → Manner → Typed → Type 0
IsLightLoad a m e = (pushed : ℕ) → m.light ≡ true → is_light_load (place_of a.frame pushed e) (access_of (types_of a.frame.parts.types) e) true ≡ true

-- Its lines do its work in a manner where those of the base tell the place in it: at a known place, behind an address in AX or in ptr1.
abbrev pub LoadsDoIn : Type 0
LoadsDoIn = (g : World) (a : Active) (m : Manner) (t : QTy) (e : Typed) → IsPlacement g.code g.place → m.over ≤ 1000 → IsWholeLoad g a t e → IsLightLoad a m e → ((d : Destination) → BaseDoesIn g a m d e) → ValueDoesIn g a m (node t (load e))

-- the lines of a test of a tree lead where its truth does
abbrev pub TestDoesIn : World → Active → Manner → Typed → Type 0
TestDoesIn g a m e = (pushed fresh to : ℕ) (s : Bool) → BranchesIn g a m (shape_in g a e) s to (plan (unit_in g) e) (need e) pushed (expr_code a.frame pushed fresh (Test to s) e)

-- Those of what is loaded do so: a number at a known place is tested where it lies, a byte behind ptr1 in A, and another one by its value.
abbrev pub LoadsTestIn : Type 0
LoadsTestIn = (g : World) (a : Active) (m : Manner) (t : QTy) (e : Typed) → IsPlacement g.code g.place → m.over ≤ 1000 → IsWholeLoad g a t e → IsLightLoad a m e → ((d : Destination) → BaseDoesIn g a m d e) → TestDoesIn g a m (node t (load e))

abbrev pub LoadsTest : Type 0
LoadsTest = (g : World) (a : Active) (t : QTy) (e : Typed) → IsPlacement g.code g.place → IsWholeLoad g a t e → ((d : Destination) → BaseDoesIn g a usual d e) → TestDoes g a (node t (load e))

-- ---- objects in regbank, which has no number of four bytes

pub record IsBankedLoad (g : World) (a : Active) (t s : QTy) (i b : ℕ) : Type 0 where
  pub parts : a.frame.parts ≡ g.parts
  pub typed : IsTyped (unit_in g) (node t (load (node s (object i))))
  pub homed : IsHomed g a i
  pub home : home_of a.frame i ≡ Some (homes.Bank b)
  pub kept : IsKeptThere (Bank b) (extent_of (kind_in (shape_in g a (node s (object i)))))

abbrev pub BankedLoadsDoIn : Type 0
BankedLoadsDoIn = (g : World) (a : Active) (m : Manner) (t s : QTy) (i b : ℕ) → IsPlacement g.code g.place → m.over ≤ 1000 → IsBankedLoad g a t s i b → (m.light ≡ true → is_signed_char (kind_in (shape_in g a (node s (object i)))) ≡ false)
    → ValueDoesIn g a m (node t (load (node s (object i))))

abbrev pub BankedLoadsTestIn : Type 0
BankedLoadsTestIn = (g : World) (a : Active) (m : Manner) (t s : QTy) (i b : ℕ) → IsPlacement g.code g.place → m.over ≤ 1000 → IsBankedLoad g a t s i b → TestDoesIn g a m (node t (load (node s (object i))))
