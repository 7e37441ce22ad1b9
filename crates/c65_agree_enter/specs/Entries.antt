-- From a call to the first statement of the called function.
use Rattle.std.specs.Prelude.{◌≡◌, ℕ, ◌+◌, ◌<◌, ◌≤◌, ◌⊎◌, ◌==◌, true, false, IsTrue, if◌then◌else◌, List, [], Some, None, length, All}
use Rattle.c65_csem.specs.Places.{is_fixed_object}
use Rattle.c65_meaning.specs.Store.{Block}
use Rattle.c65_meaning.specs.Shapes.{object_in, object_size}
use Rattle.c65_meaning.specs.After.{is_among}
use Rattle.c65_meaning.specs.State.{Scene}
use Rattle.c65_code.specs.LineState.{State, sp_of, IsBytes}
use Rattle.c65_code.specs.Placement.{stack_start}
use Rattle.c65_genframe.specs.Frames.{saved_bytes}
use Rattle.c65_agree_store.specs.Stands.{At, Banked, Placing, Banks, Grows, IsAt, LiesIn, AreApart, Stands, IsFree}
use Rattle.c65_agree_state.specs.World.{World, unit_in, Active}
use Rattle.c65_agree_state.specs.Fixed.{symbol_at, HaveFixed}
use Rattle.c65_agree_state.specs.Sizes.{HaveSizes}
use Rattle.c65_agree_state.specs.Joins.{HaveSymbols, spot_of, call_bytes}
use Rattle.c65_agree_state.specs.Exprs.{bounds_of}
use Rattle.c65_agree_between.specs.Stmts.{Between}
use Rattle.c65_agree_enter.specs.Params.{bytes_of}

-- ---- before

-- What is asked of a scene and a state at a call, whoever calls: it stands, nothing lives in the regbank of a call that is to come, and
-- what lies on the software stack lies at the bound or above it.
pub record MayEnter (g : World) (depth bound : ℕ) (c : Scene) (w : Placing) (k : Banks) (t : State) : Type 0 where
  pub stands : Stands c.store w t.mem k
  pub shallow : (b : ℕ) (x : Block) (d i : ℕ) → IsAt c.store w b x (Banked d i) → 0 < x.size → d < depth
  pub symbols : HaveSymbols g w
  pub fixed : HaveFixed g c w
  pub sizes : HaveSizes (unit_in g) c.store c.next
  pub fresh : (b : ℕ) → c.next ≤ b → w b ≡ None
  pub above : (n : ℕ) → stack_start ≤ n → n < bound → IsFree c.store w (At n)
  pub reached : (b : ℕ) (x : Block) (at o : ℕ) → IsAt c.store w b x (At at) → o < x.holds → IsTrue (g.place.is_data (at + o)) ⊎ (bound ≤ at + o)
  pub constant : (n v : ℕ) → g.place.constant n ≡ Some v → t.mem n ≡ v
  pub sealed : (b : ℕ) (x : Block) (at o v : ℕ) → IsAt c.store w b x (At at) → o < x.holds → g.place.constant (at + o) ≡ Some v → x.sealed ≡ true
  pub asked : c.free ≡ false
  pub input : t.input ≡ c.input
  pub read : All (λ v. v < 256) c.input
  pub output : t.output ≡ c.out
  pub ended : t.ended ≡ None

-- objects of blocks that have one place for the whole run lie below the software stack
abbrev pub FixedAreLow : World → Type 0
FixedAreLow g = (i n : ℕ) → is_fixed_object (object_in (unit_in g) i) ≡ true → n < object_size (unit_in g).types (object_in (unit_in g) i) → symbol_at g i + n < stack_start

-- ---- the frame

-- The parameters have homes in the frame: in the bytes of regbank, or above the automatic objects and the saved bytes, each with bytes of
-- its own.
pub record HaveHomes (g : World) (a : Active) (is : List ℕ) : Type 0 where
  pub lies : (i : ℕ) → is_among is i ≡ true → LiesIn (spot_of g a i) (bytes_of (unit_in g) i)
  pub within : (i at o : ℕ) → is_among is i ≡ true → spot_of g a i ≡ At at → o < bytes_of (unit_in g) i → (a.base + (a.frame.soft + saved_bytes a.frame.bank) ≤ at) × (at + o < a.base + call_bytes a)
  pub apart : (i j : ℕ) → is_among is i ≡ true → is_among is j ≡ true → (i ≡ j → ⊥) → AreApart (spot_of g a i) (bytes_of (unit_in g) i) (spot_of g a j) (bytes_of (unit_in g) j)

-- ---- behind the entry

-- the machine has taken the frame: the bytes below the software stack and above what the function has there are as they were at the call
pub record IsTaken (a : Active) (t0 t : State) : Type 0 where
  pub sp : sp_of t ≡ a.base
  pub mem : (n : ℕ) → (n < stack_start) ⊎ (a.base + call_bytes a ≤ n) → t.mem n ≡ t0.mem n
  pub none_pushed : t.pushed ≡ []
  pub frames : t.frames ≡ a.behind
  pub input : t.input ≡ t0.input
  pub output : t.output ≡ t0.output
  pub ended : t.ended ≡ t0.ended
  pub bytes : IsBytes t

-- the regbank of the active call is in the zero page, and those behind it are as before
abbrev pub banks_with : Active → State → Banks → Banks
banks_with a t k d i = if d == length a.behind then t.zp (20 + i) else k d i

-- The scene in which the parameters have begun belongs to the state, and of what there was nothing has changed.
pub record HasEntered (g : World) (a : Active) (needs : ℕ) (is : List ℕ) (c0 : Scene) (w0 : Placing) (k0 : Banks) (t0 : State) (c1 : Scene) (t1 : State) : Type 0 where
  pub placing : Placing
  pub between : Between g a needs is c1 placing (banks_with a t1 k0) t1
  pub next : c0.next ≤ c1.next
  pub bounds : (b : ℕ) → b < c0.next → bounds_of (c1.store b) ≡ bounds_of (c0.store b)
  pub grows : Grows w0 placing
  pub kept : (n : ℕ) → a.base + call_bytes a ≤ n → IsFree c0.store w0 (At n) → (t1.mem n ≡ t0.mem n) × IsFree c1.store placing (At n)
  pub low : (n : ℕ) → stack_start ≤ n → n < a.base + (a.frame.soft + saved_bytes a.frame.bank) → IsFree c1.store placing (At n)
