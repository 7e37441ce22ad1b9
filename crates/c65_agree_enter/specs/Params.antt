-- The parameters of a call begin where its arguments lie (C90 6.3.2.2, 6.7.1).
use Rattle.std.specs.Prelude.{◌≡◌, ℕ, ◌<◌, ◌≤◌, true, false, List, [], ◌∷◌, Some, None}
use Rattle.c65_csem.specs.Trees.{UnitTy}
use Rattle.c65_meaning.specs.Store.{Cell, Block, Value, Shape, unset, size_in, new_cells}
use Rattle.c65_meaning.specs.Shapes.{object_in, object_size, object_shape}
use Rattle.c65_meaning.specs.After.{is_among}
use Rattle.c65_meaning.specs.State.{Scene, Frame as Call, block_in}
use Rattle.c65_code.specs.LineState.{Bytes}
use Rattle.c65_agree_store.specs.Stands.{Spot, Placing, Banks, byte_in, CellIs, IsAt, LiesIn, AreApart}

abbrev pub bytes_of : UnitTy → ℕ → ℕ
bytes_of u i = object_size u.types (object_in u i)

abbrev pub shape_in : UnitTy → ℕ → Shape
shape_in u i = object_shape u.types (object_in u i)

abbrev pub no_cells : ℕ → Cell
no_cells o = unset

-- each argument lies as the cells of its parameter
abbrev pub ArePassed : UnitTy → Placing → Bytes → Banks → (ℕ → Spot) → List ℕ → List Value → Type 0
ArePassed u w m k spot (i ∷ is) (v ∷ vs) = ((o : ℕ) → o < size_in (shape_in u i) → CellIs w (new_cells (shape_in u i) v no_cells 0 o) (byte_in m k (spot i) o)) × ArePassed u w m k spot is vs
ArePassed u w m k spot _ _ = Unit {0}

-- each object stands once in the list
abbrev pub AreDistinct : List ℕ → Type 0
AreDistinct [] = Unit {0}
AreDistinct (i ∷ is) = (is_among is i ≡ false) × AreDistinct is

-- their places lie in memory or regbank, no live block has a byte of them, and no two of them have one in common
pub record HavePlaces (u : UnitTy) (is : List ℕ) (spot : ℕ → Spot) (c : Scene) (w : Placing) : Type 0 where
  pub lies : (i : ℕ) → is_among is i ≡ true → LiesIn (spot i) (bytes_of u i)
  pub free : (i : ℕ) → is_among is i ≡ true → (b : ℕ) (x : Block) (q : Spot) → IsAt c.store w b x q → AreApart (spot i) (bytes_of u i) q x.size
  pub apart : (i j : ℕ) → is_among is i ≡ true → is_among is j ≡ true → (i ≡ j → ⊥) → AreApart (spot i) (bytes_of u i) (spot j) (bytes_of u j)

-- the call has a block for the object, which it began
pub record HasBegun (u : UnitTy) (spot : ℕ → Spot) (c d : Scene) (w2 : Placing) (i b : ℕ) : Type 0 where
  pub named : block_in d.frames i ≡ Some b
  pub place : w2 b ≡ Some (spot i)
  pub first : c.next ≤ b
  pub last : b < d.next
  pub block : Block
  pub is : d.store b ≡ Some block
  pub live : block.live ≡ true
  pub size : block.size ≡ bytes_of u i
  pub holds : block.holds ≡ bytes_of u i

-- From the scene c to d these objects of the active call, which are its parameters, have begun, and nothing else has changed.
pub record HaveBegun (u : UnitTy) (is : List ℕ) (spot : ℕ → Spot) (c : Scene) (w : Placing) (call : Call) (calls : List Call) (d : Scene) (w2 : Placing) : Type 0 where
  -- the active call and those behind it
  pub active : Call
  pub frames : d.frames ≡ active ∷ calls
  pub func : active.func ≡ call.func
  pub cost : active.cost ≡ call.cost
  pub rest : active.rest ≡ call.rest
  pub others : (i : ℕ) → is_among is i ≡ false → active.object i ≡ call.object i
  pub begun : (i : ℕ) → is_among is i ≡ true → (b : ℕ) × HasBegun u spot c d w2 i b
  pub next : c.next ≤ d.next
  pub old : (b : ℕ) → b < c.next → (d.store b ≡ c.store b) × (w2 b ≡ w b)
  pub fresh : (b : ℕ) → d.next ≤ b → w2 b ≡ None
  pub new : (b : ℕ) → c.next ≤ b → b < d.next → (i : ℕ) × (is_among is i ≡ true) × (active.object i ≡ Some b)
  pub input : d.input ≡ c.input
  pub out : d.out ≡ c.out
  pub turns : d.turns ≡ c.turns
  pub free : d.free ≡ c.free
