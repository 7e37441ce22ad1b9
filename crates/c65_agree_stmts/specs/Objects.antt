-- Where the objects of a function's blocks have their blocks (C90 6.1.2.4).
use Rattle.std.specs.Prelude.{◌≡◌, ℕ, ◌+◌, ◌<◌, ◌≤◌, ◌⊎◌, true, false, IsTrue, List, [], ◌∷◌, ◌++◌, Option, None, Some, slice_get}
use Rattle.c65_csem.specs.Places.{is_fixed_object}
use Rattle.c65_meaning.specs.Shapes.{object_in, object_size, object_sealed}
use Rattle.c65_meaning.specs.After.{Landing, is_among, without}
use Rattle.c65_code.specs.Placement.{IsPlacement, stack_start}
use Rattle.c65_agree_store.specs.Stands.{At, LiesIn, AreApart}
use Rattle.c65_agree_state.specs.World.{World, unit_in, Active}
use Rattle.c65_agree_state.specs.Fixed.{symbol_at, is_object_of, func_has_fixed}
use Rattle.c65_agree_state.specs.Joins.{spot_of}
use Rattle.c65_agree_stmts.specs.Calling.{Calling}

abbrev pub bytes_of : World → ℕ → ℕ
bytes_of g i = object_size (unit_in g).types (object_in (unit_in g) i)

-- in regbank, or among the automatic objects of the frame, above the byte that a variadic function has at its base
pub record IsFramed (g : World) (a : Active) (i : ℕ) : Type 0 where
  pub within : (at o : ℕ) → spot_of g a i ≡ At at → o < bytes_of g i → (a.base ≤ at) × (at + o < a.base + a.frame.soft) × (a.frame.variadic ≡ true → a.base < at)

-- at its symbol, where it has one place for the whole run: no other such object has a byte there, and no other function has the object
pub record IsFixed (g : World) (a : Active) (i : ℕ) : Type 0 where
  pub fixed : is_fixed_object (object_in (unit_in g) i) ≡ true
  pub spot : spot_of g a i ≡ At (symbol_at g i)
  pub reached : (o : ℕ) → o < bytes_of g i → IsTrue (g.place.is_data (symbol_at g i + o))
  pub sealed : (o v : ℕ) → o < bytes_of g i → g.place.constant (symbol_at g i + o) ≡ Some v → object_sealed (object_in (unit_in g) i) ≡ true
  pub apart : (j n o : ℕ) → is_fixed_object (object_in (unit_in g) j) ≡ true → n < bytes_of g j → o < bytes_of g i → symbol_at g j + n ≡ symbol_at g i + o → j ≡ i
  pub once : func_has_fixed (unit_in g) (slice_get (unit_in g).funcs a.func) ≡ true
  pub alone : (f : ℕ) → is_object_of (slice_get (unit_in g).funcs f) i ≡ true → f ≡ a.func

-- an object of the function that may begin where these are in scope
pub record MayBegin (x : Calling) (scope : List ℕ) (i : ℕ) : Type 0 where
  pub lies : LiesIn (spot_of x.world x.active i) (bytes_of x.world i)
  pub home : IsFramed x.world x.active i ⊎ IsFixed x.world x.active i
  pub object : is_object_of (slice_get (unit_in x.world).funcs x.active.func) i ≡ true
  pub closed : is_among scope i ≡ false
  pub apart : (j : ℕ) → is_among scope j ≡ true → AreApart (spot_of x.world x.active i) (bytes_of x.world i) (spot_of x.world x.active j) (bytes_of x.world j)

-- one behind another
abbrev pub MayAllBegin : Calling → List ℕ → List ℕ → Type 0
MayAllBegin x scope [] = Unit {0}
MayAllBegin x scope (i ∷ is) = MayBegin x scope i × MayAllBegin x (i ∷ scope) is

-- Where a jump leads into blocks: from those with these objects it begins the objects of the others, and the objects of both stay.
abbrev pub MayLand : Calling → Option Landing → Type 0
MayLand x None = Unit {0}
MayLand x (Some to) = (left : List ℕ) → MayAllBegin x (without left (without left to.objects) ++ x.params) (without to.objects left)

-- the code is placed, with objects that have one place for the whole run below the software stack, and the call has begun its own blocks
pub record HasGround (x : Calling) : Type 0 where
  pub placed : IsPlacement x.world.code x.world.place
  pub low : (i n : ℕ) → is_fixed_object (object_in (unit_in x.world) i) ≡ true → n < bytes_of x.world i → symbol_at x.world i + n < stack_start
  pub first : x.active.first ≤ x.first.next
